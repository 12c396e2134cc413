-- Where requests may be sent: below a root.
use Rattle.std.specs.Prelude.{ℕ, ◌-◌, ◌==◌, Bool, cond, not, ◌&&◌, ◌||◌, List, [], ◌∷◌, ◌++◌, length, map, take, drop, codes, bytes_eq, nat_lt, Option, None, Some, is_some, option_and_then, find}
use Rattle.std.specs.Borrow.{Bor}
use Rattle.std.specs.Char.{to_ascii_lowercase, is_ascii_hexdigit}
use Rattle.std.specs.List.{list_any, list_all}
use Rattle.percent_encoding.specs.Percent.{percent_encode, percent_decode}
use Rattle.percent_encoding.specs.AsciiSet.{should_percent_encode}
use Rattle.odb_resolve.specs.declared.text.TheConstants.{ESCAPED}
use Rattle.odb_resolve.specs.Texts.{begins, folder_len}
use Rattle.odb_resolve.specs.Urls.{Url, read_url}
use Rattle.odb_resolve.specs.Joins.{is_empty}
use Rattle.odb_resolve.specs.Safety.{is_safe}

-- the text with each byte that no URL has percent-encoded (RFC 3986, section 2)
abbrev pub encode : List ℕ → List ℕ
encode text = percent_encode ESCAPED text

-- a byte that a URL has
abbrev pub is_in_url : ℕ → Bool
is_in_url byte = not (should_percent_encode ESCAPED byte)

-- a byte that a root has: `[` and `]` are around an address of IPv6 (section 3.2.2)
abbrev pub is_in_root : ℕ → Bool
is_in_root byte = is_in_url byte || (byte == 91) || (byte == 93)

-- the texts are equal in lower case
abbrev pub same_letters : List ℕ → List ℕ → Bool
same_letters text other = bytes_eq (map to_ascii_lowercase text) (map to_ascii_lowercase other)

abbrev pub without_suffix : List ℕ → List ℕ → List ℕ
without_suffix suffix text = cond (bytes_eq (drop (length text - length suffix) text) suffix) (take (length text - length suffix) text) text

-- the port that a scheme has by default, as an authority ends with it
unfoldable pub default_port : List ℕ → List ℕ
default_port scheme = cond (same_letters scheme (codes "http:")) (codes ":80") (cond (same_letters scheme (codes "https:")) (codes ":443") [])

-- an authority without an empty port and without the default one (section 6.2.3)
abbrev pub without_port : List ℕ → List ℕ → List ℕ
without_port scheme authority = without_suffix (default_port scheme) (without_suffix (codes ":") authority)

-- the same scheme, host and port (section 6.2.2.1)
unfoldable pub is_same_origin : Url → Url → Bool
is_same_origin url other =
    same_letters url.scheme other.scheme && same_letters (without_port url.scheme url.authority) (without_port other.scheme other.authority)

-- the path ends with `/`
abbrev pub is_folder : List ℕ → Bool
is_folder path = nat_lt 0 (length path) && (folder_len path == length path)

-- a root's parts: scheme, host without user information, folder, and no query
unfoldable pub has_parts_of_root : Url → Bool
has_parts_of_root root =
    not (is_empty root.scheme) && nat_lt 2 (length root.authority) && not (list_any (λ byte. byte == 64) root.authority)
    && is_folder root.path && is_empty root.query

-- the text is a root
abbrev pub is_root : List ℕ → Bool
is_root text = list_all is_in_root text && has_parts_of_root (read_url text)

-- `%` and two hexadecimal digits (section 2.1)
abbrev pub is_escape : ℕ → ℕ → ℕ → Bool
is_escape sign high low = (sign == 37) && is_ascii_hexdigit high && is_ascii_hexdigit low

-- what follows the first byte of a text, or the escape of it
abbrev pub past_first : List ℕ → List ℕ
past_first [] = []
past_first (first ∷ []) = []
past_first (first ∷ second ∷ []) = second ∷ []
past_first (first ∷ high ∷ low ∷ more) = cond (is_escape first high low) more (high ∷ low ∷ more)

-- the first byte of a text once it is decoded is this one
abbrev pub begins_with : ℕ → List ℕ → Bool
begins_with byte text = begins (λ first. first == byte) (percent_decode text)

-- what follows a decoded folder in a path that begins with it, maybe with other escapes (section 6.2.2)
abbrev pub after_folder : List ℕ → List ℕ → Option (List ℕ)
after_folder [] path = Some path
after_folder (first ∷ more) path = cond (begins_with first path) (after_folder more (past_first path)) None

-- what follows the root's path
abbrev pub below : List ℕ → List ℕ → Option (List ℕ)
below path root = after_folder (percent_decode (read_url root).path) path

-- a URL with this encoded path is below the root
unfoldable pub is_below : Url → List ℕ → List ℕ → Bool
is_below url path root = is_root root && is_same_origin url (read_url root) && is_some (below path root)

-- the root as it is written, and what follows, if that path is safe
abbrev pub sent_with : List ℕ → List ℕ → List ℕ → Option (List ℕ)
sent_with query root more = cond (is_safe ((read_url root).path ++ more)) (Some (root ++ more ++ encode query)) None

-- the URL that is sent below the root
unfoldable pub sent_below : List ℕ → List ℕ → List ℕ → Option (List ℕ)
sent_below path query root = option_and_then (λ more. sent_with query root more) (below path root)

-- the URL as it is sent, below the first root that it is below
unfoldable pub within : List (Bor (List ℕ)) → Url → Option (List ℕ)
within roots url =
    option_and_then (λ root. sent_below (encode url.path) url.query root.now) (find (λ root. is_below url (encode url.path) root.now) roots)
