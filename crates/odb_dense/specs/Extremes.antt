-- The least and the greatest number of a set.
use Rattle.std.specs.Prelude.{◌≡◌, ℕ, ◌<◌, Bool, true, false, List, length, slice_index_or}

-- the number is in the set, and none below it is
pub record IsLeastOf (members : List Bool) (i : ℕ) : Type 0 where
  pub within : i < length members
  pub among : slice_index_or members i false ≡ true
  pub least : (j : ℕ) → j < i → slice_index_or members j false ≡ false

-- the number is in the set, and none above it is
pub record IsGreatestOf (members : List Bool) (i : ℕ) : Type 0 where
  pub within : i < length members
  pub among : slice_index_or members i false ≡ true
  pub greatest : (j : ℕ) → i < j → slice_index_or members j false ≡ false
