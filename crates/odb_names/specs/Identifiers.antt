-- Identifiers (OData ABNF 4.01, rules `request-id` and `unreserved`).
use Rattle.std.specs.Prelude.{◌≢◌, ◌==◌, ◌||◌, ℕ, Bool, List, []}
use Rattle.std.specs.Char.{is_ascii_alphanumeric}
use Rattle.std.specs.List.{AllPass}

-- an ASCII letter or digit, `-`, `.`, `_` or `~`
abbrev pub is_unreserved : ℕ → Bool
is_unreserved byte = is_ascii_alphanumeric byte || (byte == 45) || (byte == 46) || (byte == 95) || (byte == 126)

-- one or more unreserved characters
abbrev pub IsRequestId : List ℕ → Type 0
IsRequestId text = (text ≢ []) × AllPass is_unreserved text
