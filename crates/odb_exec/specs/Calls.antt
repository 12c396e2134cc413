-- The calls that an execution makes of its service and of its chooser.
use Rattle.std.specs.Prelude.{◌≡◌, List, [], ◌∷◌, Option, Some, None, ◌⊎◌, ℕ, ◌<◌, true, false, ◌++◌, slice_get, Result, Ok, Err}
use Rattle.odb_sched.specs.declared.event.Event.{Event}
use Rattle.odb_sched.specs.declared.event.Step.{Step}
use Rattle.odb_sched.specs.declared.order.Order.{Order}
use Rattle.odb_sched.specs.run.State.{State, after, is_running, size, phase_at}
use Rattle.odb_sched.specs.run.Choosing.{Positions, ready_set, running_set, Allowance, IsAllowed}
use Rattle.odb_exec.specs.Courses.{step_of, Offer, IsCourse, IsFinishedBy}
use Rattle.odb_doc.specs.declared.recorded.outcome.Outcome.{Outcome}
use Rattle.odb_doc.specs.batch.Records.{Record}
use Rattle.odb_sched.specs.declared.event.Event.TheVariants.{Start, Report}
use Rattle.odb_sched.specs.declared.event.Step.TheVariants as step
use Rattle.odb_exec.specs.declared.service.ServiceFault.{ServiceFault}
use Rattle.odb_exec.specs.declared.service.ServiceFault.TheVariants as service
use Rattle.odb_exec.specs.declared.execution.ExecFault.{ExecFault}
use Rattle.odb_exec.specs.declared.execution.ExecFault.TheVariants as fault
use Rattle.odb_doc.specs.Statuses.{is_status}
use Rattle.odb_sched.specs.run.Runs.{after_all}
use Rattle.odb_sched.specs.run.Laws.{StartsAfterDependencies}

-- what one call of `choose` does: the chooser before it, the ready and the running positions, the step that it picks, and the chooser after it
abbrev pub Picking : Type 0 → Type 1
Picking C = C → Positions → Positions → Step → C → Type 0

-- The same for a chooser behind a `dyn`, which is a type with a value of it: a call changes the value, and the type stays.
abbrev pub Behind : {I : Type 0} {D : I → Type 0} → ((chooser : (x : I) × D x) → Positions → Positions → Step → D chooser.0 → Type 0) → Picking ((x : I) × D x)
Behind {D = D} chooses old ready running step new = (value : D old.0) × chooses old ready running step value × (new ≡ (old.0, value))

-- what a step after this state asks of a chooser: one call, or nothing if the chooser names an order
abbrev pub Picks : {C : Type 0} → Picking C → Option Order → State → Step → C → C → Type 0
Picks chooses None state step old new = chooses old (ready_set state) (running_set state) step new
Picks chooses (Some order) state step old new = new ≡ old

-- what the steps of events ask of the chooser, one after another, and nothing else
abbrev pub PicksAll : {C : Type 0} → Picking C → (C → Option Order) → State → List Event → C → C → Type 0
PicksAll chooses names state [] old new = new ≡ old
PicksAll {C = C} chooses names state (e ∷ es) old new = (next : C) × Picks chooses (names old) state (step_of e) old next × PicksAll chooses names (after state e) es next new

-- what one call does: the service before it, the position, the request, the answer, and the service after it
abbrev pub Performing : Type 0 → Type 1
Performing S = S → ℕ → Record → Result Outcome ServiceFault → S → Type 0

-- one call, for the request at the position
abbrev pub IsCall : {S : Type 0} → Performing S → List Record → ℕ → Result Outcome ServiceFault → S → S → Type 0
IsCall performs requests i answer old new = (request : Record) × (slice_get requests i ≡ Some request) × performs old i request answer new

-- what an event asks of the service: a start nothing, and a report one call
abbrev pub Asks : {S : Type 0} → Performing S → List Record → Event → S → S → Type 0
Asks performs requests (Start i) old new = new ≡ old
Asks performs requests (Report i outcome) old new = IsCall performs requests i (Ok outcome) old new

-- what events ask of the service, one after another, and nothing else
abbrev pub AsksAll : {S : Type 0} → Performing S → List Record → List Event → S → S → Type 0
AsksAll {S = S} performs requests [] old new = new ≡ old
AsksAll {S = S} performs requests (e ∷ es) old new = (next : S) × Asks performs requests e old next × AsksAll performs requests es next new

-- a call that was answered: its position, its request and its outcome
abbrev pub Call : Type 0
Call = ℕ × Record × Outcome

abbrev pub call_at : Option Record → ℕ → Outcome → List Call
call_at None i outcome = []
call_at (Some request) i outcome = (i, request, outcome) ∷ []

-- the calls of events: one for each report, in order
abbrev pub calls_of : List Record → List Event → List Call
calls_of requests [] = []
calls_of requests (Start i ∷ es) = calls_of requests es
calls_of requests (Report i outcome ∷ es) = call_at (slice_get requests i) i outcome ++ calls_of requests es

-- the positions of the reports among steps, in order
abbrev pub reported_by : List Step → List ℕ
reported_by [] = []
reported_by (step.Start i ∷ steps) = reported_by steps
reported_by (step.Report i ∷ steps) = i ∷ reported_by steps

-- each call that is answered with an outcome writes one entry to a log
abbrev pub Writes : {S X : Type 0} → Performing S → (S → List X) → (Call → X) → Type 0
Writes {S = S} performs log entry = (old new : S) (i : ℕ) (request : Record) (outcome : Outcome) → performs old i request (Ok outcome) new → log new ≡ log old ++ entry (i, request, outcome) ∷ []

-- an execution: its course, the dependencies that ended before each start, each call of the service, and each of the chooser
pub record IsExecution {S C : Type 0} (allows : Allowance) (offers : Offer) (performs : Performing S) (chooses : Picking C) (names : C → Option Order) (requests : List Record) (state : State)
    (old new : S) (chooser chooser_new : C) (steps : List Step) (last : State) : Type 0 where
  pub course : IsFinishedBy allows offers state steps last
  pub dependencies_first : StartsAfterDependencies requests course.events
  pub calls : AsksAll performs requests course.events old new
  pub choices : PicksAll chooses names state course.events chooser chooser_new

-- the request is running, and its report is allowed and was picked
pub record IsReportChosen {C : Type 0} (allows : Allowance) (chooses : Picking C) (names : C → Option Order) (state : State) (old new : C) (i : ℕ) : Type 0 where
  pub within : i < size state
  pub runs : is_running (phase_at state i) ≡ true
  pub allowed : IsAllowed allows state (step.Report i)
  pub picked : Picks chooses (names old) state (step.Report i) old new

-- the last call, for a request that is due, was answered by what is this fault
abbrev pub Faults : {S : Type 0} → Performing S → List Record → (ℕ → Type 0) → ExecFault → S → S → Type 0
Faults performs requests due (fault.NoOutcome i) old new = due i × IsCall performs requests i (Err service.NoOutcome) old new
Faults performs requests due (fault.Service i) old new = due i × IsCall performs requests i (Err service.Failed) old new
Faults performs requests due (fault.BadStatus i) old new = due i × (outcome : Outcome) × (is_status outcome.status ≡ false) × IsCall performs requests i (Ok outcome) old new
Faults performs requests due fault.OutOfMemory old new = (i : ℕ) × due i × IsCall performs requests i (Err service.OutOfMemory) old new

-- an execution that ended in a faulty call: its course so far with its calls, and then the choice of that report and its call
pub record IsCutShort {S C : Type 0} (allows : Allowance) (offers : Offer) (performs : Performing S) (chooses : Picking C) (names : C → Option Order) (requests : List Record) (state : State)
    (old new : S) (chooser chooser_new : C) (cause : ExecFault) : Type 0 where
  pub events : List Event
  pub course : IsCourse allows offers state events
  pub dependencies_first : StartsAfterDependencies requests events
  pub between : S
  pub calls : AsksAll performs requests events old between
  pub chooser_between : C
  pub choices : PicksAll chooses names state events chooser chooser_between
  pub faulty : Faults performs requests (IsReportChosen allows chooses names (after_all state events) chooser_between chooser_new) cause between new

-- An execution was not completed: it ran out of memory and left chooser and service as they were, or a call was faulty.
abbrev pub IsBrokenOff : {S C : Type 0} → Allowance → Offer → Performing S → Picking C → (C → Option Order) → List Record → State → S → S → C → C → ExecFault → Type 0
IsBrokenOff allows offers performs chooses names requests state old new chooser chooser_new cause =
    ((cause ≡ fault.OutOfMemory) × (new ≡ old) × (chooser_new ≡ chooser)) ⊎ IsCutShort allows offers performs chooses names requests state old new chooser chooser_new cause
