-- The parts of a URL (RFC 3986, section 3 and appendix B), each with the delimiter that begins or ends it, so that a part
-- is empty exactly when the URL has none, and the parts in a row are the URL. The fragment is left out: it is never sent.
use Rattle.std.specs.Prelude.{ℕ, ◌+◌, ◌==◌, Bool, cond, not, ◌&&◌, ◌||◌, List, [], ◌∷◌, length, take, drop}
use Rattle.std.specs.Char.{is_ascii_alphabetic, is_ascii_alphanumeric}
use Rattle.odb_resolve.specs.Texts.{run, rest, begins, is_slash}

-- `http:`, `//host:8080`, `/odata/Books`, `?$top=1`
pub record Url : Type 0 where
  pub scheme : List ℕ
  pub authority : List ℕ
  pub path : List ℕ
  pub query : List ℕ

-- not `#`, which begins the fragment
abbrev pub is_sent : ℕ → Bool
is_sent byte = not (byte == 35)

-- not `?`, which begins the query
abbrev pub is_in_hierarchy : ℕ → Bool
is_in_hierarchy byte = not (byte == 63)

-- not `/`
abbrev pub is_in_segment : ℕ → Bool
is_in_segment byte = not (is_slash byte)

-- an ASCII letter or digit, `+`, `-` or `.` (section 3.1)
abbrev pub is_in_scheme : ℕ → Bool
is_in_scheme byte = is_ascii_alphanumeric byte || (byte == 43) || (byte == 45) || (byte == 46)

-- how many bytes the scheme has with its `:`, or 0 without one
abbrev pub scheme_len : List ℕ → ℕ
scheme_len text =
    cond (begins is_ascii_alphabetic text && begins (λ byte. byte == 58) (rest is_in_scheme text)) (length (run is_in_scheme text) + 1) 0

-- how many bytes the authority has with the `//` before it, or 0 without one (section 3.2)
abbrev pub authority_len : List ℕ → ℕ
authority_len [] = 0
authority_len (first ∷ []) = 0
authority_len (first ∷ second ∷ more) = cond (is_slash first && is_slash second) (2 + length (run is_in_segment more)) 0

abbrev pub hierarchy : List ℕ → List ℕ
hierarchy text = run is_in_hierarchy (run is_sent text)

abbrev pub query_of : List ℕ → List ℕ
query_of text = rest is_in_hierarchy (run is_sent text)

-- what follows the scheme
abbrev pub after_scheme : List ℕ → List ℕ
after_scheme text = drop (scheme_len (hierarchy text)) (hierarchy text)

-- the parts of a text
unfoldable pub read_url : List ℕ → Url
read_url text = record {
  scheme = take (scheme_len (hierarchy text)) (hierarchy text);
  authority = take (authority_len (after_scheme text)) (after_scheme text);
  path = drop (authority_len (after_scheme text)) (after_scheme text);
  query = query_of text;
}
