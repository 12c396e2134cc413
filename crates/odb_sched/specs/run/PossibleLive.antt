-- Which statuses some finished live run answers, whose units may also be sent as one (OData JSON Format 4.01, sections 19.1,
-- 19.4 and 19.5; OData Protocol 4.01, sections 8.2.8.3 and 11.7).
use Rattle.std.specs.Prelude.{◌≡◌, ◌≢◌, ◌⊎◌, ◌<◌, ℕ, Bool, true, false, List, length, Contains, IsTrue}
use Rattle.odb_doc.specs.batch.Records.{Record}
use Rattle.odb_doc.specs.Statuses.{is_success, is_status}
use Rattle.odb_check.specs.declared.need.Need.{Need}
use Rattle.odb_check.specs.declared.need.Need.TheVariants.{One, Group}
use Rattle.odb_check.specs.Plans.{batch_plan_graph}
use Rattle.odb_check.specs.PlanGraph.{PlanGraph, unit_of, needs_of, unit_needed}
use Rattle.odb_sched.specs.declared.policy.Mode.{Mode}
use Rattle.odb_sched.specs.declared.policy.Policy.{Policy}
use Rattle.odb_sched.specs.run.Steps.{is_finished}
use Rattle.odb_sched.specs.run.Answers.{answer, status_of}
use Rattle.odb_sched.specs.run.LiveEvents.{LiveEvent, IsLiveRun, live_state}
use Rattle.odb_sched.specs.run.Possible.{CanHaveSucceeded}

-- what is needed is answered 200 to 299: a request, or each member of a group
abbrev pub IsAnswered2xx : PlanGraph → (ℕ → ℕ) → Need → Type 0
IsAnswered2xx plan statuses (One r) = IsTrue (is_success (statuses r))
IsAnswered2xx plan statuses (Group u) = (j : ℕ) → j < length plan.units → unit_of plan j ≡ u → IsTrue (is_success (statuses j))

-- a unit can have been sent as one: what its members need of other units is answered 200 to 299
abbrev pub CanHaveBeenSent : PlanGraph → (ℕ → ℕ) → ℕ → Type 0
CanHaveBeenSent plan statuses u = (i : ℕ) (need : Need) → i < length plan.units → unit_of plan i ≡ u → Contains (needs_of plan i) need → unit_needed (unit_of plan) need ≢ u → IsAnswered2xx plan statuses need

-- These requests can have started: the unit of each can have been sent as one, or what the request needs can have reported a
-- success.
abbrev pub CanHaveStartedLive : PlanGraph → (ℕ → ℕ) → (ℕ → Bool) → Type 0
CanHaveStartedLive plan statuses started = (i : ℕ) → i < length plan.units → started i ≡ true
    → CanHaveBeenSent plan statuses (unit_of plan i) ⊎ ((need : Need) → Contains (needs_of plan i) need → CanHaveSucceeded plan statuses started i need)

-- The statuses are from 200 to 599; of a unit all are from 200 to 299 or none is; and whatever is not 424 is of a request that
-- can have started, with its unit or alone.
pub record IsPossibleLive (plan : PlanGraph) (statuses : ℕ → ℕ) : Type 0 where
  pub final : (i : ℕ) → i < length plan.units → IsTrue (is_status (statuses i))
  pub all_or_none : (i j : ℕ) → i < length plan.units → j < length plan.units → unit_of plan i ≡ unit_of plan j → IsTrue (is_success (statuses i)) → IsTrue (is_success (statuses j))
  pub started : ℕ → Bool
  pub others : (i : ℕ) → i < length plan.units → started i ≡ false → statuses i ≡ 424
  pub can_have : CanHaveStartedLive plan statuses started

-- a finished live run of the requests in this mode, whose answers have these statuses
pub record HasLiveRun (requests : List Record) (mode : Mode) (statuses : ℕ → ℕ) : Type 0 where
  pub policy : Policy
  pub mode_is : policy.mode ≡ mode
  pub events : List LiveEvent
  pub run : IsLiveRun requests policy events
  pub finished : is_finished (live_state requests policy events) ≡ true
  pub answered : (i : ℕ) → i < length (batch_plan_graph requests).units → status_of (answer (live_state requests policy events) i) ≡ statuses i
