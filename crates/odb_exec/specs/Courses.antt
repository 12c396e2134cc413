-- Executions of a plan: runs whose steps one has chosen, and whose outcomes a service has given.
use Rattle.std.specs.Prelude.{◌≡◌, ℕ, ◌<◌, true, false, List, [], ◌∷◌, map, Result, Ok, Err}
use Rattle.odb_doc.specs.declared.recorded.outcome.Outcome.{Outcome}
use Rattle.odb_sched.specs.declared.event.Event.{Event}
use Rattle.odb_sched.specs.declared.event.Event.TheVariants.{Start, Report}
use Rattle.odb_sched.specs.declared.event.Step.{Step}
use Rattle.odb_sched.specs.declared.event.Step.TheVariants as step
use Rattle.odb_exec.specs.declared.service.ServiceFault.{ServiceFault}
use Rattle.odb_exec.specs.declared.service.ServiceFault.TheVariants as service
use Rattle.odb_exec.specs.declared.execution.ExecFault.{ExecFault}
use Rattle.odb_exec.specs.declared.execution.ExecFault.TheVariants as fault
use Rattle.odb_doc.specs.Statuses.{is_status}
use Rattle.odb_sched.specs.run.State.{is_running, State, size, phase_at, after}
use Rattle.odb_sched.specs.run.Steps.{is_finished}
use Rattle.odb_sched.specs.run.Runs.{IsRunFrom, after_all}
use Rattle.odb_sched.specs.run.Choosing.{Allowance, IsAllowed}

-- which answers are offered for a position
abbrev pub Offer : Type 1
Offer = ℕ → Result Outcome ServiceFault → Type 0

-- an event without its outcome
abbrev pub step_of : Event → Step
step_of (Start i) = step.Start i
step_of (Report i outcome) = step.Report i

-- the outcome of a report is offered for its request
abbrev pub IsOffered : Offer → Event → Type 0
IsOffered offers (Start i) = Unit {0}
IsOffered offers (Report i outcome) = offers i (Ok outcome)

-- each step is allowed after those before it, and each outcome is offered
abbrev pub AreChosen : Allowance → Offer → State → List Event → Type 0
AreChosen allows offers state [] = Unit {0}
AreChosen allows offers state (e ∷ es) = IsAllowed allows state (step_of e) × IsOffered offers e × AreChosen allows offers (after state e) es

-- the events are a run, of chosen steps and of offered outcomes
pub record IsCourse (allows : Allowance) (offers : Offer) (state : State) (events : List Event) : Type 0 where
  pub run : IsRunFrom state events
  pub chosen : AreChosen allows offers state events

-- after some course the request runs, and its report is allowed
pub record IsReportEnabled (allows : Allowance) (offers : Offer) (state : State) (i : ℕ) : Type 0 where
  pub events : List Event
  pub course : IsCourse allows offers state events
  pub within : i < size state
  pub runs : is_running (phase_at (after_all state events) i) ≡ true
  pub allowed : IsAllowed allows (after_all state events) (step.Report i)

-- some course has these steps, and finishes the run in this state
pub record IsFinishedBy (allows : Allowance) (offers : Offer) (state : State) (steps : List Step) (last : State) : Type 0 where
  pub events : List Event
  pub course : IsCourse allows offers state events
  pub steps_are : steps ≡ map step_of events
  pub last_is : last ≡ after_all state events
  pub finished : is_finished last ≡ true

-- an outcome is offered whose status is out of range
abbrev pub OffersBadStatus : Offer → ℕ → Type 0
OffersBadStatus offers i = (outcome : Outcome) × offers i (Ok outcome) × (is_status outcome.status ≡ false)

-- the fault is the answer that was offered for such a request. Out of memory says nothing
abbrev pub IsCausedBy : Offer → (ℕ → Type 0) → ExecFault → Type 0
IsCausedBy offers such (fault.NoOutcome i) = such i × offers i (Err service.NoOutcome)
IsCausedBy offers such (fault.Service i) = such i × offers i (Err service.Failed)
IsCausedBy offers such (fault.BadStatus i) = such i × OffersBadStatus offers i
IsCausedBy offers such fault.OutOfMemory = Unit {0}
