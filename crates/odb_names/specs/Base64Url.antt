-- The form of base64url (RFC 4648, section 5), which bodies of other media types have (OData JSON
-- Format 4.01, section 19.1).
use Rattle.std.specs.Prelude.{◌≡◌, ◌≢◌, ◌≤◌, ◌%◌, ◌==◌, ◌||◌, ℕ, Bool, List, ◌++◌, length, All}
use Rattle.std.specs.Char.{is_ascii_alphanumeric}
use Rattle.std.specs.List.{AllPass}

-- an ASCII letter or digit, `-` or `_`
abbrev pub is_base64url_digit : ℕ → Bool
is_base64url_digit byte = is_ascii_alphanumeric byte || (byte == 45) || (byte == 95)

-- none, one or two `=`
abbrev pub IsPadding : List ℕ → Type 0
IsPadding text = (length text ≤ 2) × All (λ byte. byte ≡ 61) text

-- digits, whose count is not 1 modulo 4, and then padding
pub record IsBase64Url (text : List ℕ) : Type 0 where
  pub digits : List ℕ
  pub padding : List ℕ
  pub whole : text ≡ digits ++ padding
  pub passes : AllPass is_base64url_digit digits
  pub count : length digits % 4 ≢ 1
  pub padded : IsPadding padding
