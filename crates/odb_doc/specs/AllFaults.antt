-- All faults of one kind in a list: each of them once, in the order of position and number.
use Rattle.std.specs.Prelude.{◌≡◌, ◌<◌, ◌⊎◌, ◌↔◌, ℕ, List, length, Contains}
use Rattle.std.specs.List.{AllAdjacentBelow}

-- a position and a number come before others: by the position, and at one position by the number
abbrev pub IsBefore : ℕ × ℕ → ℕ × ℕ → Type 0
IsBefore x y = (x.0 < y.0) ⊎ ((x.0 ≡ y.0) × (x.1 < y.1))

-- the list has the faults of this kind and no others, and each comes before the next, so none stands twice
pub record ListsAll {F : Type 0} (place : F → ℕ × ℕ) (IsFault : F → Type 0) (faults : List F) : Type 0 where
  pub exact : (fault : F) → Contains faults fault ↔ IsFault fault
  pub ordered : AllAdjacentBelow (λ x y. IsBefore (place x) (place y)) faults (length faults)
