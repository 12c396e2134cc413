-- What is true of every run (OData JSON Format 4.01, sections 19.1, 19.4 and 19.5; OData Protocol 4.01, section 11.7).
use Rattle.std.specs.Prelude.{length, ◌≡◌, ◌≢◌, ◌⊎◌, ◌↔◌, ℕ, ◌<◌, ◌≤◌, ◌==◌, true, false, List, ◌∷◌, ◌++◌, Some, Contains, IsTrue, count_by}
use Rattle.odb_doc.specs.batch.Records.{Record}
use Rattle.odb_doc.specs.declared.recorded.outcome.Outcome.{Outcome}
use Rattle.odb_check.specs.declared.need.Need.{Need}
use Rattle.odb_check.specs.declared.need.Need.TheVariants.{One, Group}
use Rattle.odb_check.specs.PlanGraph.{PlanGraph, unit_of, needs_of, unit_needed}
use Rattle.odb_check.specs.Positions.{id_at, group_at, names_at, reference_at}
use Rattle.odb_sched.specs.declared.phase.Phase.TheVariants.{Reported}
use Rattle.odb_sched.specs.declared.event.Event.{Event}
use Rattle.odb_sched.specs.declared.event.Event.TheVariants.{Start, Report}
use Rattle.odb_doc.specs.Statuses.{is_success}
use Rattle.odb_sched.specs.run.State.{is_running, has_succeeded, State, size, phase_at}
use Rattle.odb_sched.specs.run.Failing.{succeeds}
use Rattle.odb_sched.specs.run.Steps.{may_start, is_finished}
use Rattle.odb_sched.specs.run.Runs.{event_position}
use Rattle.odb_sched.specs.run.Answers.{answer, is_answered_2xx}

-- the events hold a report of this request with a status from 200 to 299
abbrev pub HasSuccess : List Event → ℕ → Type 0
HasSuccess events r = (outcome : Outcome) × Contains events (Report r outcome) × IsTrue (is_success outcome.status)

-- What holds of all that a request names: each request and each member of each group in its `dependsOn`, and the request
-- that its URL refers to.
pub record HoldsOfNamed (requests : List Record) (i : ℕ) (holds : ℕ → Type 0) : Type 0 where
  pub ids : (name : List ℕ) (r : ℕ) → Contains (names_at requests i) name → id_at requests r ≡ Some name → holds r
  pub groups : (name : List ℕ) (j : ℕ) → Contains (names_at requests i) name → group_at requests j ≡ Some name → holds j
  pub references : (name : List ℕ) (r : ℕ) → reference_at requests i ≡ Some name → id_at requests r ≡ Some name → holds r

-- what a request names has ended with success in these events
abbrev pub HaveEnded : List Record → List Event → ℕ → Type 0
HaveEnded requests events i = HoldsOfNamed requests i (HasSuccess events)

-- what a request names has succeeded in this state
abbrev pub HaveSucceeded : List Record → State → ℕ → Type 0
HaveSucceeded requests state i = HoldsOfNamed requests i (λ r. has_succeeded (phase_at state r) ≡ true)

-- no request starts before all that it names has ended with success
abbrev pub StartsAfterDependencies : List Record → List Event → Type 0
StartsAfterDependencies requests events = (before later : List Event) (i : ℕ) → events ≡ before ++ Start i ∷ later → HaveEnded requests before i

-- a run that is not finished has a request that runs or one that may start
abbrev pub IsNeverStuck : State → Type 0
IsNeverStuck state = is_finished state ≡ false → (i : ℕ) × (i < size state) × ((is_running (phase_at state i) ≡ true) ⊎ (may_start state i ≡ true))

-- no request has more than a start and a report
abbrev pub HasFewEvents : List Event → Type 0
HasFewEvents events = (i : ℕ) → count_by (λ e. event_position e == i) events ≤ 2

-- what was reported is what the table has
abbrev pub Agrees : State → (ℕ → Outcome) → Type 0
Agrees state table = (i : ℕ) (outcome : Outcome) → i < size state → phase_at state i ≡ Reported outcome → outcome ≡ table i

-- the statuses in a table of outcomes
abbrev pub statuses_of : (ℕ → Outcome) → ℕ → ℕ
statuses_of table i = (table i).status

-- each status that was reported is the one that the table has
abbrev pub AgreesInStatus : State → (ℕ → ℕ) → Type 0
AgreesInStatus state statuses = (i : ℕ) (outcome : Outcome) → i < size state → phase_at state i ≡ Reported outcome → outcome.status ≡ statuses i

-- Which requests are answered with a success depends on the statuses alone: exactly those whose unit succeeds under them.
abbrev pub HasResultByStatuses : State → Type 0
HasResultByStatuses state = (statuses : ℕ → ℕ) → AgreesInStatus state statuses → (i : ℕ) → i < size state
    → IsTrue (is_answered_2xx (answer state i)) ↔ IsTrue (succeeds state.plan_graph statuses (unit_of state.plan_graph i))

-- a request is answered with a success exactly when its unit succeeds under the table, and then with the table's outcome
abbrev pub HasOneResult : State → Type 0
HasOneResult state = (table : ℕ → Outcome) → Agrees state table → (i : ℕ) → i < size state
    → (IsTrue (is_answered_2xx (answer state i)) ↔ IsTrue (succeeds state.plan_graph (statuses_of table) (unit_of state.plan_graph i)))
    × (IsTrue (is_answered_2xx (answer state i)) → answer state i ≡ Some (table i))

-- a request that is answered with a success belongs to a unit that succeeds under the table, and has the table's outcome
abbrev pub AgreesWithTable : State → Type 0
AgreesWithTable state = (table : ℕ → Outcome) → Agrees state table → (i : ℕ) → i < size state → IsTrue (is_answered_2xx (answer state i))
    → IsTrue (succeeds state.plan_graph (statuses_of table) (unit_of state.plan_graph i)) × (answer state i ≡ Some (table i))

-- the requests of a unit are all answered with a success, or none is
abbrev pub IsAllOrNone : State → Type 0
IsAllOrNone state = (i j : ℕ) → i < size state → j < size state → unit_of state.plan_graph i ≡ unit_of state.plan_graph j
    → IsTrue (is_answered_2xx (answer state i)) → IsTrue (is_answered_2xx (answer state j))

-- what is answered with a success needs only what is answered with a success
abbrev pub RestsOnSuccesses : State → Type 0
RestsOnSuccesses state = (i : ℕ) → i < size state → IsTrue (is_answered_2xx (answer state i))
    → ((r : ℕ) → Contains (needs_of state.plan_graph i) (One r) → IsTrue (is_answered_2xx (answer state r)))
    × ((u j : ℕ) → Contains (needs_of state.plan_graph i) (Group u) → j < size state → unit_of state.plan_graph j ≡ u → IsTrue (is_answered_2xx (answer state j)))

-- A unit succeeds under a table exactly when each member has a success there, and each other unit that a member needs
-- succeeds.
abbrev pub SucceedsByMembers : PlanGraph → (ℕ → ℕ) → ℕ → Type 0
SucceedsByMembers plan statuses u = IsTrue (succeeds plan statuses u) ↔ ((i : ℕ) → i < length plan.units → unit_of plan i ≡ u
    → IsTrue (is_success (statuses i)) × ((need : Need) → Contains (needs_of plan i) need → unit_needed (unit_of plan) need ≢ u → IsTrue (succeeds plan statuses (unit_needed (unit_of plan) need))))
