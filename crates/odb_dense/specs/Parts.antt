-- What rows keep: for their invariant, nothing to believe.
use Rattle.std.specs.Prelude.{ℕ, ◌≤◌, List, length, map, slice_range, All}

-- it is a part of a list of this length
abbrev pub IsPart : ℕ → ℕ × ℕ → Type 0
IsPart size part = (part.0 ≤ part.1) × (part.1 ≤ size)

module _ {T : Type 0} where
  -- the part of a list from one place up to another
  abbrev pub part_of : List T → ℕ × ℕ → List T
  part_of list part = slice_range list part.0 part.1

  -- the rows that are these parts of a list
  abbrev pub rows_of : List T → List (ℕ × ℕ) → List (List T)
  rows_of list parts = map (part_of list) parts

  -- each part is in the list
  abbrev pub HasParts : List T → List (ℕ × ℕ) → Type 0
  HasParts list parts = All (IsPart (length list)) parts
