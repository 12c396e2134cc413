-- What a call returns that gives positions, and what it leaves in the buffer of its caller.
use Rattle.std.specs.Prelude.{ℕ, List}
use Rattle.odb_calls.specs.Returns.{Fills}

-- what a call returns that gives such positions
abbrev pub GivesPositions : (List ℕ → Type 0) → ℕ → ℕ → List ℕ → List ℕ → Type 0
GivesPositions P status count old new = (positions : List ℕ) × P positions × Fills positions 0 status count old new
