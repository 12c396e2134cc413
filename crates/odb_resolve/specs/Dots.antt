-- A path without the segments `.` and `..` (RFC 3986, section 5.2.4).
use Rattle.std.specs.Prelude.{ℕ, ◌-◌, Bool, true, false, cond, List, [], ◌∷◌, ◌++◌, take, codes, bytes_eq}
use Rattle.odb_resolve.specs.Texts.{slash, is_slash, segments, folder_len}

-- the output without its last segment and the slash before it
abbrev pub without_last : List ℕ → List ℕ
without_last output = take (folder_len output - 1) output

-- `/`, if the segment is the last
abbrev pub closing : Bool → List ℕ
closing is_last = cond is_last (slash ∷ []) []

-- the output once a segment is taken from the input
abbrev pub take_segment : List ℕ → List ℕ → Bool → List ℕ
take_segment output segment is_last =
    cond (bytes_eq segment (codes ".")) (output ++ closing is_last)
    (cond (bytes_eq segment (codes "..")) (without_last output ++ closing is_last)
    (output ++ slash ∷ segment))

abbrev pub is_end : List (List ℕ) → Bool
is_end [] = true
is_end (segment ∷ more) = false

-- the output once all segments are taken
abbrev pub take_segments : List ℕ → List (List ℕ) → List ℕ
take_segments output [] = output
take_segments output (segment ∷ more) = take_segments (take_segment output segment (is_end more)) more

-- A path that begins with `/`, without dot segments. Another path is left as it is: no URL with an authority has one.
unfoldable pub remove_dots : List ℕ → List ℕ
remove_dots [] = []
remove_dots (first ∷ more) = cond (is_slash first) (take_segments [] (segments more)) (first ∷ more)
