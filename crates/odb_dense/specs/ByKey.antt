-- Pairs by their first part, the key.
use Rattle.std.specs.Prelude.{ℕ, ◌<◌, ◌==◌, List, [], ◌∷◌, length, slice_index_or, if◌then◌else◌}

-- the second parts of the pairs with this key, in order
abbrev pub of_key : ℕ → List (ℕ × ℕ) → List ℕ
of_key k [] = []
of_key k (p ∷ ps) = if p.0 == k then p.1 ∷ of_key k ps else of_key k ps

-- each key is below a bound
abbrev pub HaveKeys : ℕ → List (ℕ × ℕ) → Type 0
HaveKeys keys ps = (k : ℕ) → k < length ps → (slice_index_or ps k (0, 0)).0 < keys
