-- Paths that lead nowhere else, whatever a server makes of them.
use Rattle.std.specs.Prelude.{ℕ, ◌==◌, Bool, false, not, ◌&&◌, ◌||◌, List, [], ◌∷◌, codes, bytes_eq, nat_lt, nat_le}
use Rattle.std.specs.List.{list_any}
use Rattle.percent_encoding.specs.Percent.{percent_decode}
use Rattle.odb_resolve.specs.Texts.{run, begins, segments}

-- an ASCII control character
abbrev pub is_ascii_control : ℕ → Bool
is_ascii_control byte = nat_lt byte 32 || (byte == 127)

-- the second byte of U+0080 to U+009F in UTF-8
abbrev pub is_c1 : ℕ → Bool
is_c1 byte = nat_le 128 byte && nat_le byte 159

-- the second and third byte of U+2028 and U+2029, the ends of lines and paragraphs, in UTF-8
abbrev pub ends_line : List ℕ → Bool
ends_line [] = false
ends_line (second ∷ []) = false
ends_line (second ∷ third ∷ more) = (second == 128) && ((third == 168) || (third == 169))

-- the text begins with a control character, or with the end of a line
abbrev pub begins_with_control : List ℕ → Bool
begins_with_control [] = false
begins_with_control (first ∷ more) =
    is_ascii_control first || ((first == 194) && begins is_c1 more) || ((first == 226) && ends_line more)

-- the text has one
abbrev pub has_control : List ℕ → Bool
has_control [] = false
has_control (first ∷ more) = begins_with_control (first ∷ more) || has_control more

-- not `;`, which begins the parameters of a segment (RFC 3986, section 3.3): some servers drop them
abbrev pub is_in_name : ℕ → Bool
is_in_name byte = not (byte == 59)

-- the segment is `.` or `..`, without its parameters
abbrev pub is_dots : List ℕ → Bool
is_dots segment = bytes_eq (run is_in_name segment) (codes ".") || bytes_eq (run is_in_name segment) (codes "..")

-- no control character, no `\`, which some servers take for `/`, and no dot segment
unfoldable pub is_clean : List ℕ → Bool
is_clean path = not (has_control path) && not (list_any (λ byte. byte == 92) path) && not (list_any is_dots (segments path))

-- that holds also once a server has decoded the path, and once more
unfoldable pub is_safe : List ℕ → Bool
is_safe path = is_clean path && is_clean (percent_decode path) && is_clean (percent_decode (percent_decode path))
