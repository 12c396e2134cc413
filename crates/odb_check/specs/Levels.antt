-- The lengths of the chains of needs.
use Rattle.std.specs.Prelude.{◌≡◌, ◌<◌, ◌==◌, ◌+◌, ℕ, zero, suc, max, cond, List, [], ◌∷◌, ◌++◌, length, slice_index}
use Rattle.odb_doc.specs.batch.Records.{Record}
use Rattle.odb_check.specs.declared.need.Need.{Need}
use Rattle.odb_check.specs.declared.need.Need.TheVariants.{One, Group}
use Rattle.odb_check.specs.Units.{unit_at}
use Rattle.odb_check.specs.Needs.{needs_at}

-- the greatest value of a list, or 0
abbrev pub greatest_of : {X : Type 0} → (X → ℕ) → List X → ℕ
greatest_of value [] = 0
greatest_of value (x ∷ xs) = max (value x) (greatest_of value xs)

-- the greatest value at a number below a bound, or 0
abbrev pub greatest_below : ℕ → (ℕ → ℕ) → ℕ
greatest_below zero value = 0
greatest_below (suc n) value = max (value n) (greatest_below n value)

-- the greatest level of a unit, among the first n requests
abbrev pub unit_level : List Record → ℕ → List ℕ → ℕ → ℕ
unit_level rs n levels u = greatest_below n (λ j. cond (unit_at rs j == u) (slice_index levels j) 0)

-- the level of what is needed, by the levels of requests and of units
abbrev pub level_needed : (ℕ → ℕ) → (ℕ → ℕ) → Need → ℕ
level_needed level group_level (One r) = level r
level_needed level group_level (Group u) = group_level u

-- the level of a request with these needs: one above the highest level among them, and 0 if there are none
abbrev pub next_level : (ℕ → ℕ) → (ℕ → ℕ) → List Need → ℕ
next_level level group_level needs = greatest_of (λ need. level_needed level group_level need + 1) needs

-- the levels of the first n requests
abbrev pub levels_below : List Record → ℕ → List ℕ
levels_below rs zero = []
levels_below rs (suc n) = levels_below rs n ++ next_level (slice_index (levels_below rs n)) (unit_level rs n (levels_below rs n)) (needs_at rs n) ∷ []

-- the level of a request
abbrev pub level_at : List Record → ℕ → ℕ
level_at rs i = slice_index (levels_below rs (length rs)) i

-- the level of a unit: the greatest of its requests
abbrev pub level_of_unit : List Record → ℕ → ℕ
level_of_unit rs u = greatest_below (length rs) (λ j. cond (unit_at rs j == u) (level_at rs j) 0)

-- the level of each request is one above the highest level among its needs, and 0 if it has none
pub record HasLevels (rs : List Record) : Type 0 where
  pub each : (i : ℕ) → i < length rs → level_at rs i ≡ next_level (level_at rs) (level_of_unit rs) (needs_at rs i)
