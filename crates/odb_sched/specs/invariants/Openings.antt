-- What is counted of the units of a run, to find those that may begin.
use Rattle.std.specs.Prelude.{◌≡◌, ℕ, ◌<◌, ◌==◌, ◌&&◌, ◌||◌, Bool, true, false, nat_lt, List, length, slice_index_or, count_by}
use Rattle.odb_dense.specs.declared.worklist.Mark.{Mark}
use Rattle.odb_dense.specs.declared.worklist.Mark.TheVariants.{Unvisited}
use Rattle.odb_dense.specs.Marks.{is_visited}
use Rattle.odb_check.specs.Firsts.{count_below}
use Rattle.odb_check.specs.PlanGraph.{PlanGraph, unit_of, needs_of, unit_needed}
use Rattle.odb_sched.specs.declared.openings.Openings.{Openings}
use Rattle.odb_sched.specs.declared.phase.Phase.{Phase}
use Rattle.odb_sched.specs.run.Steps.{failed_in}
use Rattle.odb_sched.specs.run.Units.{has_begun_in}

-- how many needs of a request are on its own unit
abbrev pub inner_count : PlanGraph → ℕ → ℕ
inner_count plan i = count_by (λ need. unit_needed (unit_of plan) need == unit_of plan i) (needs_of plan i)

-- of the members of a unit before a position, how many have more open needs than those on the unit
abbrev pub waiting_below : PlanGraph → List ℕ → ℕ → ℕ → ℕ
waiting_below plan unmet n u = count_below n (λ i. (unit_of plan i == u) && nat_lt (inner_count plan i) (slice_index_or unmet i 0))

-- each list has an entry for each request or unit
pub record HaveUnits (plan : PlanGraph) (t : Openings) : Type 0 where
  pub begun : length t.begun.items ≡ plan.unit_count
  pub inner : length t.inner.items ≡ length plan.units
  pub waiting : length t.waiting.items ≡ plan.unit_count
  pub free : length t.free ≡ plan.unit_count

-- these needs and members are counted, where requests have so many open needs
pub record AreWaiting (plan : PlanGraph) (unmet : List ℕ) (t : Openings) : Type 0 where
  pub inner : (i : ℕ) → i < length plan.units → slice_index_or t.inner.items i 0 ≡ inner_count plan i
  pub waiting : (u : ℕ) → u < plan.unit_count → slice_index_or t.waiting.items u 0 ≡ waiting_below plan unmet (length plan.units) u

-- no member of a free unit is counted, and each such unit is free unless it is skipped
pub record AreFree (plan : PlanGraph) (skipped : ℕ → Bool) (t : Openings) : Type 0 where
  pub sound : (u : ℕ) → u < plan.unit_count → slice_index_or t.free u false ≡ true → slice_index_or t.waiting.items u 0 ≡ 0
  pub among : (u : ℕ) → u < plan.unit_count → slice_index_or t.waiting.items u 0 ≡ 0 → skipped u ≡ false → slice_index_or t.free u false ≡ true

-- a unit has begun or failed
abbrev pub is_past : PlanGraph → List Phase → ℕ → Bool
is_past plan phases u = has_begun_in plan phases u || failed_in plan phases u

-- it is noted which units have begun; once a unit was asked for, their members are counted, and the free ones are known
pub record AreOpenings (plan : PlanGraph) (phases : List Phase) (unmet : List ℕ) (t : Openings) : Type 0 where
  pub entries : HaveUnits plan t
  pub begun : (u : ℕ) → u < plan.unit_count → slice_index_or t.begun.items u false ≡ has_begun_in plan phases u
  pub waiting : t.asked ≡ true → AreWaiting plan unmet t
  pub free : t.asked ≡ true → AreFree plan (is_past plan phases) t

-- a unit is noted to have begun, or was taken from the worklist of failed units
abbrev pub is_passed : Openings → List Mark → ℕ → Bool
is_passed t failed u = slice_index_or t.begun.items u false || is_visited (slice_index_or failed u Unvisited)

-- the unit is free and is not passed over, and each free unit before it is
pub record IsFirstFree (t : Openings) (failed : List Mark) (u : ℕ) : Type 0 where
  pub within : u < length t.free
  pub free : slice_index_or t.free u false ≡ true
  pub here : is_passed t failed u ≡ false
  pub before : (v : ℕ) → v < u → slice_index_or t.free v false ≡ true → is_passed t failed v ≡ true
