-- Which unit may begin, for a caller that performs a group as a whole (OData JSON Format 4.01, sections 19.1 and 19.4).
use Rattle.std.specs.Prelude.{ℕ, ◌≡◌, ◌<◌, ◌≤◌, ◌⊎◌, ◌==◌, ◌&&◌, Bool, true, false, not, nat_lt, List, [], length, slice_index_or, if◌then◌else◌, Some, find}
use Rattle.std.specs.List.{filter, list_all}
use Rattle.odb_check.specs.declared.need.Need.{Need}
use Rattle.odb_check.specs.Firsts.{any_below, joined_below}
use Rattle.odb_check.specs.PlanGraph.{PlanGraph, unit_of, needs_of, unit_needed}
use Rattle.odb_sched.specs.declared.phase.Phase.{Phase}
use Rattle.odb_sched.specs.declared.phase.Phase.TheVariants.{Unstarted}
use Rattle.odb_sched.specs.run.State.{State, is_unstarted, is_running, is_reported, size, phase_at}
use Rattle.odb_sched.specs.run.Steps.{is_finished, is_satisfied, is_stopped, unit_failed, running_count, places, may_start, start_number}
use Rattle.odb_doc.specs.LeastRules.{IsLeast}
use Rattle.odb_sched.specs.declared.refusal.StartRefusal.{StartRefusal}
use Rattle.odb_sched.specs.declared.refusal.StartRefusal.TheVariants as start

-- what is needed belongs to another unit
abbrev pub is_outer : PlanGraph → ℕ → Need → Bool
is_outer plan u need = not (unit_needed (unit_of plan) need == u)

-- what a request, if it is a member of a unit, needs of other units
abbrev pub outer_needs_at : PlanGraph → ℕ → ℕ → List Need
outer_needs_at plan u i = if unit_of plan i == u then filter (is_outer plan u) (needs_of plan i) else []

-- what the members of a unit need of other units, member by member
abbrev pub outer_needs : PlanGraph → ℕ → List Need
outer_needs plan u = joined_below (length plan.units) (outer_needs_at plan u)

abbrev pub outer_satisfied : State → ℕ → Bool
outer_satisfied state u = list_all (is_satisfied state) (outer_needs state.plan_graph u)

-- a member of the unit has started
abbrev pub has_begun_in : PlanGraph → List Phase → ℕ → Bool
has_begun_in plan phases u = any_below (length plan.units) (λ i. (unit_of plan i == u) && not (is_unstarted (slice_index_or phases i Unstarted)))

abbrev pub has_begun : State → ℕ → Bool
has_begun state u = has_begun_in state.plan_graph state.phases u

-- the unit may begin: none of its members has started, and what they need of other units has succeeded
abbrev pub may_begin : State → ℕ → Bool
may_begin state u = not (has_begun state u) && not (is_stopped state) && not (unit_failed state u) && outer_satisfied state u && nat_lt (running_count state) (places state)

-- when each cause bars that the unit is sent as one. A need that it waits for is the first of its needs on other units that is
-- not satisfied.
abbrev pub BarsUnit : StartRefusal → State → ℕ → Type 0
BarsUnit start.AlreadyStarted state u = has_begun state u ≡ true
BarsUnit start.Stopped state u = is_stopped state ≡ true
BarsUnit start.UnitFailed state u = unit_failed state u ≡ true
BarsUnit (start.Waiting need) state u = find (λ other. not (is_satisfied state other)) (outer_needs state.plan_graph u) ≡ Some need
BarsUnit start.WidthReached state u = places state ≤ running_count state

-- the first cause against it
abbrev pub IsUnitCause : State → ℕ → StartRefusal → Type 0
IsUnitCause state u cause = IsLeast start_number (λ other. BarsUnit other state u) cause

-- each member of the unit has reported
abbrev pub IsOver : State → ℕ → Type 0
IsOver state u = (i : ℕ) → i < size state → unit_of state.plan_graph i ≡ u → is_reported (phase_at state i) ≡ true

-- of the units that are neither over nor failed, the first needs nothing more of other units
abbrev pub FirstNeedsNothing : State → Type 0
FirstNeedsNothing state = (u : ℕ) → u < state.plan_graph.unit_count → unit_failed state u ≡ false
    → ((v : ℕ) → v < u → IsOver state v ⊎ (unit_failed state v ≡ true)) → outer_satisfied state u ≡ true

-- If a unit needs nothing more of other units, has not failed and has a member that has not reported, then one of its members
-- runs or may start, unless the run is stopped or the width is used up.
abbrev pub UnitsGoOn : State → Type 0
UnitsGoOn state = (i : ℕ) → i < size state → is_reported (phase_at state i) ≡ false → unit_failed state (unit_of state.plan_graph i) ≡ false
    → outer_satisfied state (unit_of state.plan_graph i) ≡ true → is_stopped state ≡ false → running_count state < places state
    → (j : ℕ) × (j < size state) × (unit_of state.plan_graph j ≡ unit_of state.plan_graph i) × ((is_running (phase_at state j) ≡ true) ⊎ (may_start state j ≡ true))

-- A run that is not finished, in which nothing runs and each unit that has begun is over or has failed, has a unit that may
-- begin.
abbrev pub HasNextUnit : State → Type 0
HasNextUnit state = is_finished state ≡ false → ((i : ℕ) → i < size state → is_running (phase_at state i) ≡ false)
    → ((u : ℕ) → u < state.plan_graph.unit_count → has_begun state u ≡ true → IsOver state u ⊎ (unit_failed state u ≡ true))
    → (u : ℕ) × (u < state.plan_graph.unit_count) × (may_begin state u ≡ true)
