-- What a set of numbers is made of: for its invariant, nothing to believe.
use Rattle.std.specs.Prelude.{◌≡◌, ℕ, ◌<◌, ◌≤◌, ◌==◌, Bool, List, Option, Some, None, length, map, is_some, count_by, slice_index, slice_index_or, if◌then◌else◌}
use Rattle.odb_dense.specs.declared.sparse_set.SparseSet.TheInside.{Inside}

-- the place that a number of 32 bits stands for: the greatest stands for none
abbrev pub place_of : ℕ → Option ℕ
place_of n = if n == 4294967295 then None else Some n

-- the places of the numbers below the bound
abbrev pub places_of : List ℕ → List (Option ℕ)
places_of numbers = map place_of numbers

-- which numbers are in a set
abbrev pub members : Inside → List Bool
members s = map is_some (places_of s.places.items)

-- the list begins with the numbers that have a place, each at its place
pub record ArePlaced (items : List ℕ) (places : List (Option ℕ)) (count : ℕ) : Type 0 where
  pub few : length places ≤ 4294967295
  pub room : length items ≡ length places
  pub counted : count ≡ count_by is_some places
  pub placed : (k : ℕ) → k < count → slice_index_or places (slice_index items k) None ≡ Some k
  pub listed : (i k : ℕ) → slice_index_or places i None ≡ Some k → (k < count) × (slice_index items k ≡ i)

-- what a set keeps
abbrev pub IsPlaced : Inside → Type 0
IsPlaced s = ArePlaced s.items.items (places_of s.places.items) s.count
