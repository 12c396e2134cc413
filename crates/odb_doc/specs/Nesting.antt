-- How deep JSON text nests.
use Rattle.std.specs.Prelude.{◌≡◌, ℕ, List, [], Some}
use Rattle.json.specs.Json.{skip_value}
use Rattle.json.specs.Lex.{tokens}

-- The bytes are one value in which arrays and objects nest so deep at most, also in a member that a later one of its name
-- replaces.
abbrev pub NestsWithin : ℕ → List ℕ → Type 0
NestsWithin n bytes = skip_value n (tokens bytes) ≡ Some []
