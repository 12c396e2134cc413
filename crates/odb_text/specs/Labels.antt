-- Texts as they are shown in a drawing: at most 40 characters of each, as Graphviz shows them.
use Rattle.std.specs.Prelude.{◌≡◌, ℕ, Bool, true, false, List, [], ◌∷◌, ◌++◌, ◌==◌, if◌then◌else◌, nat_lt, chars, codes, encode_utf8, length, take}
use Rattle.std.specs.List.{flat_map}
use Rattle.serde_json.specs.Data.{string}
use Rattle.serde_json.specs.Written.{compact_text}

-- A character as Graphviz shows it. In a label `&` begins an entity, as `&lt;`, so it is written as one itself. A control
-- character is shown as a blank.
abbrev pub shown_char : ℕ → List ℕ
shown_char c = if c == 38 then codes "&amp;" else (if nat_lt c 32 then codes " " else encode_utf8 c)

-- the first characters of a text
abbrev pub first_shown : ℕ → List ℕ → List ℕ
first_shown count text = flat_map shown_char (take count (chars text))

-- A text of at most 40 characters is shown whole. A longer one is cut, and ends in two points, with which it has 40.
unfoldable pub shown : List ℕ → List ℕ
shown text = if nat_lt 40 (length (chars text)) then first_shown 38 text ++ codes ".." else first_shown 40 text

-- A text in quotation marks, as JSON writes it. A quotation mark, a backslash and the end of a line have the same escapes in
-- DOT, and a shown text has no other character that JSON escapes. So DOT too takes it as one text, whatever is in it: that is
-- `laws::every_label`.
abbrev pub quoted : List ℕ → List ℕ
quoted text = compact_text (string text)

-- whether nothing is left
abbrev pub is_nothing : List ℕ → Bool
is_nothing [] = true
is_nothing (byte ∷ bytes) = false

-- whether the first quotation mark that no backslash escapes is the last byte; a backslash escapes the byte after it
abbrev pub ends_last : Bool → List ℕ → Bool
ends_last escaped [] = false
ends_last true (byte ∷ bytes) = ends_last false bytes
ends_last false (byte ∷ bytes) = if byte == 34 then is_nothing bytes else ends_last (byte == 92) bytes

-- one string, as JSON and DOT read it: it begins with a quotation mark, and ends with the next one that is not escaped
pub record IsOneString (text : List ℕ) : Type 0 where
  pub rest : List ℕ
  pub begins : text ≡ 34 ∷ rest
  pub ends : ends_last false rest ≡ true
