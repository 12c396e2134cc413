-- Which statuses some finished run answers (OData JSON Format 4.01, sections 19.1, 19.4 and 19.5; OData Protocol 4.01,
-- sections 8.2.8.3 and 11.7).
use Rattle.std.specs.Prelude.{◌≡◌, ◌⊎◌, ◌<◌, ℕ, Bool, true, false, List, length, Contains, IsTrue}
use Rattle.odb_check.specs.declared.need.Need.{Need}
use Rattle.odb_check.specs.declared.need.Need.TheVariants.{One, Group}
use Rattle.odb_check.specs.declared.plan.Plan.{Plan}
use Rattle.odb_check.specs.Plans.{plan_graph}
use Rattle.odb_check.specs.PlanGraph.{PlanGraph, unit_of, needs_of}
use Rattle.odb_doc.specs.Statuses.{is_success, is_status}
use Rattle.odb_sched.specs.declared.policy.Mode.{Mode}
use Rattle.odb_sched.specs.declared.policy.Policy.{Policy}
use Rattle.odb_sched.specs.declared.event.Event.{Event}
use Rattle.odb_sched.specs.run.Steps.{is_finished}
use Rattle.odb_sched.specs.run.Runs.{IsRun, state_after}
use Rattle.odb_sched.specs.run.Answers.{answer, status_of}

-- What a request needs can have reported a success, if these have started: it is answered 200 to 299, each member of a group;
-- or it is of the same unit, has started, and is answered 424, as a success is that was undone.
abbrev pub CanHaveSucceeded : PlanGraph → (ℕ → ℕ) → (ℕ → Bool) → ℕ → Need → Type 0
CanHaveSucceeded plan statuses started i (One r) = IsTrue (is_success (statuses r)) ⊎ ((unit_of plan r ≡ unit_of plan i) × (started r ≡ true) × (statuses r ≡ 424))
CanHaveSucceeded plan statuses started i (Group u) = (j : ℕ) → j < length plan.units → unit_of plan j ≡ u → IsTrue (is_success (statuses j))

-- these requests can have started: what each of them needs can have reported a success
abbrev pub CanHaveStarted : PlanGraph → (ℕ → ℕ) → (ℕ → Bool) → Type 0
CanHaveStarted plan statuses started = (i : ℕ) (need : Need) → i < length plan.units → started i ≡ true → Contains (needs_of plan i) need → CanHaveSucceeded plan statuses started i need

-- The statuses are from 200 to 599; of a unit all are from 200 to 299 or none is; and whatever is not 424 is of a request that
-- can have started.
pub record IsPossible (plan : PlanGraph) (statuses : ℕ → ℕ) : Type 0 where
  pub final : (i : ℕ) → i < length plan.units → IsTrue (is_status (statuses i))
  pub all_or_none : (i j : ℕ) → i < length plan.units → j < length plan.units → unit_of plan i ≡ unit_of plan j → IsTrue (is_success (statuses i)) → IsTrue (is_success (statuses j))
  pub started : ℕ → Bool
  pub others : (i : ℕ) → i < length plan.units → started i ≡ false → statuses i ≡ 424
  pub can_have : CanHaveStarted plan statuses started

-- a finished run of the plan in this mode, whose answers have these statuses
pub record HasRun (plan : Plan) (mode : Mode) (statuses : ℕ → ℕ) : Type 0 where
  pub policy : Policy
  pub mode_is : policy.mode ≡ mode
  pub events : List Event
  pub run : IsRun plan policy events
  pub finished : is_finished (state_after plan policy events) ≡ true
  pub answered : (i : ℕ) → i < length (plan_graph plan).units → status_of (answer (state_after plan policy events) i) ≡ statuses i
