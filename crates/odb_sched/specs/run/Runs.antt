-- Lists of events, and which of them are runs (OData Protocol 4.01, section 11.7).
use Rattle.std.specs.Prelude.{◌≡◌, ℕ, ◌<◌, ◌==◌, Bool, true, false, List, [], ◌∷◌, ◌++◌, length, Option, Some, None, cond}
use Rattle.std.specs.List.{list_any}
use Rattle.odb_check.specs.declared.plan.Plan.{Plan}
use Rattle.odb_doc.specs.declared.recorded.outcome.Outcome.{Outcome}
use Rattle.odb_sched.specs.declared.policy.Policy.{Policy}
use Rattle.odb_sched.specs.declared.phase.Phase.{Phase}
use Rattle.odb_sched.specs.declared.phase.Phase.TheVariants.{Unstarted, Running, Reported}
use Rattle.odb_sched.specs.declared.event.Event.{Event}
use Rattle.odb_sched.specs.declared.event.Event.TheVariants.{Start, Report}
use Rattle.odb_sched.specs.declared.refusal.RunRefusal.{RunRefusal}
use Rattle.odb_sched.specs.declared.refusal.RunRefusal.TheVariants as refusal
use Rattle.odb_sched.specs.run.State.{State, size, initial, after}
use Rattle.odb_sched.specs.run.Steps.{may_come, IsStartCause, IsReportCause}

abbrev pub event_position : Event → ℕ
event_position (Start i) = i
event_position (Report i outcome) = i

-- the state after events
abbrev pub after_all : State → List Event → State
after_all state [] = state
after_all state (e ∷ es) = after_all (after state e) es

-- each event may come after those before it
abbrev pub IsRunFrom : State → List Event → Type 0
IsRunFrom state [] = Unit {0}
IsRunFrom state (e ∷ es) = (event_position e < size state) × (may_come state e ≡ true) × IsRunFrom (after state e) es

-- the events are a run of the plan
abbrev pub IsRun : Plan → Policy → List Event → Type 0
IsRun plan policy events = IsRunFrom (initial plan policy) events

-- the state after a run
abbrev pub state_after : Plan → Policy → List Event → State
state_after plan policy events = after_all (initial plan policy) events

abbrev pub starts : ℕ → Event → Bool
starts i (Start j) = i == j
starts i (Report j outcome) = false

abbrev pub report_of : ℕ → Event → Option Outcome
report_of i (Start j) = None
report_of i (Report j outcome) = cond (i == j) (Some outcome) None

abbrev pub or_later : Option Outcome → Option Outcome → Option Outcome
or_later None later = later
or_later (Some outcome) later = Some outcome

-- the outcome of the first report of a request
abbrev pub first_report : ℕ → List Event → Option Outcome
first_report i [] = None
first_report i (e ∷ es) = or_later (report_of i e) (first_report i es)

abbrev pub phase_by : Option Outcome → Bool → Phase
phase_by (Some outcome) started = Reported outcome
phase_by None true = Running
phase_by None false = Unstarted

-- the phase of a request after events: by its start and its first report among them
abbrev pub phase_of : ℕ → List Event → Phase
phase_of i events = phase_by (first_report i events) (list_any (starts i) events)

-- an event may not come after a state, and this is the first cause; `at` is its place among the events
abbrev pub RefusesEvent : State → ℕ → Event → RunRefusal → Type 0
RefusesEvent state at (Start i) (refusal.Start place cause) = (place ≡ at) × IsStartCause state i cause
RefusesEvent state at (Start i) (refusal.Report place cause) = ⊥
RefusesEvent state at (Start i) refusal.OutOfMemory = ⊥
RefusesEvent state at (Report i outcome) (refusal.Start place cause) = ⊥
RefusesEvent state at (Report i outcome) (refusal.Report place cause) = (place ≡ at) × IsReportCause state i outcome cause
RefusesEvent state at (Report i outcome) refusal.OutOfMemory = ⊥

-- the events before the refused one are a run, after which it may not come
pub record StopsAt (state : State) (events : List Event) (cause : RunRefusal) : Type 0 where
  pub before : List Event
  pub event : Event
  pub later : List Event
  pub whole : events ≡ before ++ event ∷ later
  pub run : IsRunFrom state before
  pub barred : may_come (after_all state before) event ≡ false
  pub refused : RefusesEvent (after_all state before) (length before) event cause

-- why a list of events is not a run. Out of memory says nothing
abbrev pub Refuses : State → List Event → RunRefusal → Type 0
Refuses state events refusal.OutOfMemory = Unit {0}
Refuses state events cause = StopsAt state events cause
