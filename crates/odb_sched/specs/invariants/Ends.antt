-- The two ends of a set of positions.
use Rattle.std.specs.Prelude.{◌≡◌, ℕ, ◌<◌, true, false, List, length, slice_index_or, Bool}
use Rattle.odb_sched.specs.declared.order.End.{End}
use Rattle.odb_sched.specs.declared.order.End.TheVariants.{Least, Greatest}
use Rattle.odb_sched.specs.run.Choosing.{Positions, IsLeast, IsGreatest}

-- a number is nearer to the end than another
abbrev pub IsNearer : End → ℕ → ℕ → Type 0
IsNearer Least j i = j < i
IsNearer Greatest j i = i < j

-- the number passes, and none that is nearer to the end does
pub record IsEndOf (end : End) (members : List Bool) (i : ℕ) : Type 0 where
  pub within : i < length members
  pub among : slice_index_or members i false ≡ true
  pub nearest : (j : ℕ) → IsNearer end j i → slice_index_or members j false ≡ false

-- the position is at the end of a set
abbrev pub IsAt : End → Positions → ℕ → Type 0
IsAt Least = IsLeast
IsAt Greatest = IsGreatest
