-- The state of a run: its requests, its policy, and the phase of each request.
use Rattle.std.specs.Prelude.{ℕ, ◌==◌, ◌-◌, List, [], length, replicate, slice_index_or, slice_set, Bool, true, false, not, if◌then◌else◌}
use Rattle.odb_doc.specs.batch.Records.{Record}
use Rattle.odb_doc.specs.declared.recorded.outcome.Outcome.{Outcome}
use Rattle.odb_check.specs.declared.plan.Plan.{Plan}
use Rattle.odb_check.specs.Plans.{plan_records}
unfoldable pub use Rattle.odb_check.specs.Plans.{batch_plan_graph}
pub use Rattle.odb_check.specs.Plans.{plan_graph}
use Rattle.odb_check.specs.Firsts.{count_below, list_below}
use Rattle.odb_check.specs.PlanGraph.{PlanGraph, unit_of}
use Rattle.odb_sched.specs.declared.policy.Policy.{Policy}
use Rattle.odb_sched.specs.declared.phase.Phase.{Phase}
use Rattle.odb_sched.specs.declared.phase.Phase.TheVariants.{Unstarted, Running, Reported}
use Rattle.odb_sched.specs.declared.event.Event.{Event}
use Rattle.odb_sched.specs.declared.event.Event.TheVariants.{Start, Report}
use Rattle.odb_doc.specs.Statuses.{is_error, is_success}

-- The shape is that of the requests; the phases are by position; the run is closed once its caller has stopped it. Of each
-- unit that was sent as one, so many reports are awaited; of any other unit none.
pub record State : Type 0 where
  pub requests : List Record
  pub plan_graph : PlanGraph
  pub policy : Policy
  pub closed : Bool
  pub phases : List Phase
  pub awaited : List ℕ

-- how many requests there are
abbrev pub size : State → ℕ
size state = length state.plan_graph.units

-- the phase of the request at a position
abbrev pub phase_at : State → ℕ → Phase
phase_at state i = slice_index_or state.phases i Unstarted

-- the same state, of these requests
abbrev pub with_requests : List Record → State → State
with_requests requests state = record state { requests = requests }

-- the same state, of no requests: what a run keeps of it that knows them by their positions alone
abbrev pub without_requests : State → State
without_requests state = with_requests [] state

-- before any event, of these requests
abbrev pub first_state : List Record → Policy → State
first_state requests policy = record { requests = requests; plan_graph = batch_plan_graph requests; policy = policy; closed = false; phases = replicate (length (batch_plan_graph requests).units) Unstarted; awaited = replicate (batch_plan_graph requests).unit_count 0 }

-- before any event, of the requests of a plan
abbrev pub initial : Plan → Policy → State
initial plan policy = first_state (plan_records plan) policy

-- after a start
abbrev pub started : State → ℕ → State
started state i = record state { phases = slice_set state.phases i Running }

-- how many members a unit has
abbrev pub members_in : PlanGraph → ℕ → ℕ
members_in plan u = count_below (length plan.units) (λ i. unit_of plan i == u)

-- the phases after the start of each member of a unit
abbrev pub running_members : PlanGraph → List Phase → ℕ → List Phase
running_members plan phases u = list_below (length plan.units) (λ i. if unit_of plan i == u then Running else slice_index_or phases i Unstarted)

-- after a unit was sent as one: each member runs, and the reports of all are awaited
abbrev pub started_unit : State → ℕ → State
started_unit state u = record state { phases = running_members state.plan_graph state.phases u; awaited = slice_set state.awaited u (members_in state.plan_graph u) }

-- of each unit that was sent as one how many reports are awaited, after one of this unit
abbrev pub awaited_after : List ℕ → ℕ → List ℕ
awaited_after awaited u = slice_set awaited u (slice_index_or awaited u 0 - 1)

-- after a report
abbrev pub reported : State → ℕ → Outcome → State
reported state i outcome = record state { phases = slice_set state.phases i (Reported outcome); awaited = awaited_after state.awaited (unit_of state.plan_graph i) }

-- after the caller has stopped it
abbrev pub stopped : State → State
stopped state = record state { closed = true }

abbrev pub after : State → Event → State
after state (Start i) = started state i
after state (Report i outcome) = reported state i outcome

abbrev pub is_unstarted : Phase → Bool
is_unstarted Unstarted = true
is_unstarted Running = false
is_unstarted (Reported outcome) = false

abbrev pub is_running : Phase → Bool
is_running Unstarted = false
is_running Running = true
is_running (Reported outcome) = false

abbrev pub is_reported : Phase → Bool
is_reported Unstarted = false
is_reported Running = false
is_reported (Reported outcome) = true

-- reported a status from 200 to 299
abbrev pub has_succeeded : Phase → Bool
has_succeeded Unstarted = false
has_succeeded Running = false
has_succeeded (Reported outcome) = is_success outcome.status

-- reported another status
abbrev pub has_failed : Phase → Bool
has_failed Unstarted = false
has_failed Running = false
has_failed (Reported outcome) = not (is_success outcome.status)

-- reported a status from 400 to 599
abbrev pub has_erred : Phase → Bool
has_erred Unstarted = false
has_erred Running = false
has_erred (Reported outcome) = is_error outcome.status
