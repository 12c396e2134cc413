-- What holds of a unit that is sent as one (OData JSON Format 4.01, section 19.1).
use Rattle.std.specs.Prelude.{◌≡◌, ◌≢◌, ◌<◌, ◌+◌, ℕ, true, List, Contains, IsTrue}
use Rattle.odb_check.specs.declared.need.Need.{Need}
use Rattle.odb_check.specs.PlanGraph.{unit_of, needs_of, unit_needed}
use Rattle.odb_sched.specs.declared.event.Event.{Event}
use Rattle.odb_sched.specs.run.State.{State, size, phase_at, started_unit}
use Rattle.odb_sched.specs.run.Steps.{is_satisfied, running_count, places}
use Rattle.odb_sched.specs.run.Units.{may_begin}
use Rattle.odb_sched.specs.run.Runs.{after_all, IsRunFrom, first_report, phase_by}
use Rattle.odb_sched.specs.run.Answers.{answer, is_answered_2xx}

-- a request is a member of the unit
abbrev pub IsMember : State → ℕ → ℕ → Type 0
IsMember state u i = (i < size state) × (unit_of state.plan_graph i ≡ u)

-- What its members need of other units has succeeded before. It takes one place of the width. Whatever events follow, each
-- member runs until its report, and either all members are answered with a success or none is.
pub record IsWhole (state : State) (u : ℕ) : Type 0 where
  pub needs : (i : ℕ) (need : Need) → IsMember state u i → Contains (needs_of state.plan_graph i) need → unit_needed (unit_of state.plan_graph) need ≢ u → is_satisfied state need ≡ true
  pub one_place : running_count (started_unit state u) + places state ≡ (running_count state + 1) + places (started_unit state u)
  pub together : (events : List Event) → IsRunFrom (started_unit state u) events → (i : ℕ) → IsMember state u i → phase_at (after_all (started_unit state u) events) i ≡ phase_by (first_report i events) true
  pub all_or_none : (events : List Event) → IsRunFrom (started_unit state u) events → (i j : ℕ) → IsMember state u i → IsMember state u j
      → IsTrue (is_answered_2xx (answer (after_all (started_unit state u) events) i)) → IsTrue (is_answered_2xx (answer (after_all (started_unit state u) events) j))

-- that holds of each unit that may begin
abbrev pub AreWhole : State → Type 0
AreWhole state = (u : ℕ) → u < state.plan_graph.unit_count → may_begin state u ≡ true → IsWhole state u
