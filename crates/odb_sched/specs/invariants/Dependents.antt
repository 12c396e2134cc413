-- The numbers of a plan as one value, and which requests depend on each request and on each unit.
use Rattle.std.specs.Prelude.{◌≡◌, ◌==◌, ◌<◌, ◌+◌, ℕ, List, [], length, slice_index_or, count_by, All}
use Rattle.odb_check.specs.declared.need.Need.{Need}
use Rattle.odb_check.specs.declared.need.Need.TheVariants.{One, Group}
use Rattle.odb_check.specs.PlanGraph.{PlanGraph, needs_of}

-- the key of what is needed: a position, or a unit, whose keys come after those of all positions
abbrev pub key_of : PlanGraph → Need → ℕ
key_of plan (One r) = r
key_of plan (Group u) = length plan.units + u

-- how often a request needs what has this key
abbrev pub need_count : PlanGraph → ℕ → ℕ → ℕ
need_count plan key i = count_by (λ need. key_of plan need == key) (needs_of plan i)

-- the row of each key has each request as often as it needs what has the key
pub record AreDependents (plan : PlanGraph) (rows : List (List ℕ)) : Type 0 where
  pub each : length rows ≡ length plan.units + plan.unit_count
  pub within : (key : ℕ) → key < length rows → All (λ i. i < length plan.units) (slice_index_or rows key [])
  pub exact : (key i : ℕ) → key < length rows → i < length plan.units → count_by (λ j. j == i) (slice_index_or rows key []) ≡ need_count plan key i

-- the units and needs, and the requests that depend on each request and on each unit
pub record Numbers : Type 0 where
  pub plan_graph : PlanGraph
  pub dependents : List (List ℕ)
