-- Where the row of each key starts in a flat list: for private clauses, nothing to believe.
use Rattle.std.specs.Prelude.{◌≡◌, ℕ, ◌<◌, ◌+◌, ◌==◌, nat_lt, List, length, count_by, slice_index, slice_index_or}
use Rattle.odb_dense.specs.ByKey.{of_key}

-- how many pairs have a key
abbrev pub at_key : ℕ → List (ℕ × ℕ) → ℕ
at_key k ps = count_by (λ (p : ℕ × ℕ). p.0 == k) ps

-- how many pairs have a lower key
abbrev pub below_key : ℕ → List (ℕ × ℕ) → ℕ
below_key k ps = count_by (λ (p : ℕ × ℕ). nat_lt p.0 k) ps

-- each key has its row after those of the lower keys, and as many numbers are in it as the first of the pairs have the key
abbrev pub AreParts : List (ℕ × ℕ) → List (ℕ × ℕ) → List (ℕ × ℕ) → Type 0
AreParts ps first parts = (k : ℕ) → k < length parts → slice_index_or parts k (0, 0) ≡ (below_key k ps, below_key k ps + at_key k first)

-- the numbers of the first of the pairs are in the rows of their keys
abbrev pub AreRowsOf : List (ℕ × ℕ) → List (ℕ × ℕ) → List ℕ → Type 0
AreRowsOf ps first flat = (k j : ℕ) → j < length (of_key k first) → slice_index flat (below_key k ps + j) ≡ slice_index (of_key k first) j
