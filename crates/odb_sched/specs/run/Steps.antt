-- Which event may come (OData JSON Format 4.01, section 19.4; OData Protocol 4.01, sections 8.2.8.3 and 11.7), and why another may not: S1 to S5 and P1, P2.
use Rattle.std.specs.Prelude.{ℕ, ◌==◌, ◌+◌, ◌-◌, ◌&&◌, ◌||◌, Bool, true, false, not, nat_lt, List, length, slice_index_or, count_by, ◌≡◌, ◌≤◌, Some, find}
use Rattle.std.specs.List.{list_any, list_all, sum_by}
use Rattle.odb_doc.specs.declared.recorded.outcome.Outcome.{Outcome}
use Rattle.odb_check.specs.declared.need.Need.{Need}
use Rattle.odb_check.specs.declared.need.Need.TheVariants.{One, Group}
use Rattle.odb_check.specs.PlanGraph.{PlanGraph, unit_of, needs_of}
use Rattle.odb_sched.specs.declared.policy.Mode.{Mode}
use Rattle.odb_sched.specs.declared.policy.Mode.TheVariants.{Continue, Stop}
use Rattle.odb_sched.specs.declared.phase.Phase.{Phase}
use Rattle.odb_sched.specs.declared.phase.Phase.TheVariants.{Unstarted}
use Rattle.odb_sched.specs.declared.event.Event.{Event}
use Rattle.odb_sched.specs.declared.event.Event.TheVariants.{Start, Report}
use Rattle.odb_check.specs.Firsts.{any_below, all_below}
use Rattle.odb_doc.specs.Statuses.{is_status}
use Rattle.odb_sched.specs.run.State.{is_unstarted, is_running, is_reported, has_succeeded, has_failed, has_erred, State, size, phase_at}
use Rattle.odb_sched.specs.run.Failing.{fails}
use Rattle.odb_doc.specs.LeastRules.{IsLeast}
use Rattle.odb_sched.specs.declared.refusal.StartRefusal.{StartRefusal}
use Rattle.odb_sched.specs.declared.refusal.StartRefusal.TheVariants as start
use Rattle.odb_sched.specs.declared.refusal.ReportRefusal.{ReportRefusal}
use Rattle.odb_sched.specs.declared.refusal.ReportRefusal.TheVariants as report

-- each member of a unit has reported a success
abbrev pub succeeded_in : PlanGraph → List Phase → ℕ → Bool
succeeded_in plan phases u = all_below (length plan.units) (λ i. not (unit_of plan i == u) || has_succeeded (slice_index_or phases i Unstarted))

-- what is needed has reported a success: a request, or each member of a group
abbrev pub satisfied_in : PlanGraph → List Phase → Need → Bool
satisfied_in plan phases (One r) = has_succeeded (slice_index_or phases r Unstarted)
satisfied_in plan phases (Group u) = succeeded_in plan phases u

-- a unit has failed: a member reported no success, or needs something of another unit that has failed
abbrev pub failed_in : PlanGraph → List Phase → ℕ → Bool
failed_in plan phases u = fails plan (λ i. has_failed (slice_index_or phases i Unstarted)) u

abbrev pub unit_succeeded : State → ℕ → Bool
unit_succeeded state u = succeeded_in state.plan_graph state.phases u

abbrev pub is_satisfied : State → Need → Bool
is_satisfied state need = satisfied_in state.plan_graph state.phases need

abbrev pub all_satisfied : State → ℕ → Bool
all_satisfied state i = list_all (is_satisfied state) (needs_of state.plan_graph i)

abbrev pub unit_failed : State → ℕ → Bool
unit_failed state u = failed_in state.plan_graph state.phases u

-- whether an error stops a run
abbrev pub stops : Mode → Bool
stops Continue = false
stops Stop = true

-- a run that an error stops has one
abbrev pub stopped_in : Mode → List Phase → Bool
stopped_in mode phases = stops mode && list_any has_erred phases

-- a run is stopped by its caller, or by an error
abbrev pub is_stopped : State → Bool
is_stopped state = state.closed || stopped_in state.policy.mode state.phases

-- how many requests run
abbrev pub running_count : State → ℕ
running_count state = count_by is_running state.phases

-- of so many awaited reports by unit, how many are beside another of their unit
abbrev pub spare_in : List ℕ → ℕ
spare_in awaited = sum_by (λ n. n - 1) awaited

-- how many requests may run at once: as many as the width, where a unit that was sent as one counts as one
abbrev pub places : State → ℕ
places state = state.policy.width + spare_in state.awaited

-- the start of a request may come
abbrev pub may_start : State → ℕ → Bool
may_start state i = is_unstarted (phase_at state i) && not (is_stopped state) && not (unit_failed state (unit_of state.plan_graph i)) && all_satisfied state i && nat_lt (running_count state) (places state)

-- the report of a request may come
abbrev pub may_report : State → ℕ → Outcome → Bool
may_report state i outcome = is_running (phase_at state i) && is_status outcome.status

abbrev pub may_come : State → Event → Bool
may_come state (Start i) = may_start state i
may_come state (Report i outcome) = may_report state i outcome

-- none runs, and the run is stopped or each request was reported or belongs to a failed unit
abbrev pub is_finished : State → Bool
is_finished state = not (any_below (size state) (λ i. is_running (phase_at state i))) && (is_stopped state || all_below (size state) (λ i. is_reported (phase_at state i) || unit_failed state (unit_of state.plan_graph i)))

-- the number of a cause, as in S1 to S5
abbrev pub start_number : StartRefusal → ℕ
start_number start.AlreadyStarted = 1
start_number start.Stopped = 2
start_number start.UnitFailed = 3
start_number (start.Waiting need) = 4
start_number start.WidthReached = 5

-- when each cause bars the start of the request. A need that it waits for is the first of its needs that is not satisfied.
abbrev pub BarsStart : StartRefusal → State → ℕ → Type 0
BarsStart start.AlreadyStarted state i = is_unstarted (phase_at state i) ≡ false
BarsStart start.Stopped state i = is_stopped state ≡ true
BarsStart start.UnitFailed state i = unit_failed state (unit_of state.plan_graph i) ≡ true
BarsStart (start.Waiting need) state i = find (λ other. not (is_satisfied state other)) (needs_of state.plan_graph i) ≡ Some need
BarsStart start.WidthReached state i = places state ≤ running_count state

-- the first cause against a start: it applies, and none with a smaller number does
abbrev pub IsStartCause : State → ℕ → StartRefusal → Type 0
IsStartCause state i cause = IsLeast start_number (λ other. BarsStart other state i) cause

-- the number of a cause, as in P1 and P2
abbrev pub report_number : ReportRefusal → ℕ
report_number report.NotRunning = 1
report_number report.BadStatus = 2

-- when each cause bars the report of the request with this outcome
abbrev pub BarsReport : ReportRefusal → State → ℕ → Outcome → Type 0
BarsReport report.NotRunning state i outcome = is_running (phase_at state i) ≡ false
BarsReport report.BadStatus state i outcome = is_status outcome.status ≡ false

-- the first cause against a report
abbrev pub IsReportCause : State → ℕ → Outcome → ReportRefusal → Type 0
IsReportCause state i outcome cause = IsLeast report_number (λ other. BarsReport other state i outcome) cause
