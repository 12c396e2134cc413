-- The positions that are given are those that were found.
use Rattle.std.proofs.Common.{◌≡◌, ℕ, List, length}
use Rattle.odb_calls.specs.Positions.{GivesPositions}
use Rattle.odb_calls.specs.Returns.{Fills}
use Rattle.odb_calls.specs.Returns.Fills.{Whole, TooLong}

pub given-by : (P : List ℕ → Type 0) (positions : List ℕ) (status count : ℕ) (old new : List ℕ) → P positions → Fills positions 0 status count old new → GivesPositions P status count old new
given-by P positions status count old new so fills = (positions, so, fills)

-- and as many
pub counted-by : (positions : List ℕ) (status count : ℕ) (old new : List ℕ) → Fills positions 0 status count old new → count ≡ length positions
counted-by positions status count old new (Whole fits is counts begins) = counts
counted-by positions status count old new (TooLong more is counts same) = counts
