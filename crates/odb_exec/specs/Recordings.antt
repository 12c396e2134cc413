-- Outcomes that were recorded, by the ids of their requests (OData JSON Format 4.01, section 19.5), and what they determine in an order.
use Rattle.std.specs.Prelude.{◌≡◌, ℕ, List, map, Option, Some, None, option_map, Result, Ok, Err, find, bytes_eq, slice_index_or, slice_set}
use Rattle.odb_doc.specs.declared.recorded.outcome.Outcome.{Outcome}
use Rattle.odb_doc.specs.batch.Records.{Record}
use Rattle.odb_exec.specs.declared.service.ServiceFault.{ServiceFault}
use Rattle.odb_exec.specs.declared.service.ServiceFault.TheVariants.{NoOutcome}
use Rattle.odb_exec.specs.Courses.{Offer, IsFinishedBy, IsReportEnabled, IsCausedBy}
use Rattle.odb_exec.specs.Calls.{Performing}
use Rattle.odb_sched.specs.declared.order.Order.{Order}
use Rattle.odb_sched.specs.declared.event.Step.{Step}
use Rattle.odb_exec.specs.declared.execution.ExecFault.{ExecFault}
use Rattle.odb_sched.specs.run.State.{State}
use Rattle.odb_sched.specs.run.Choosing.{AllowsOrder}
use Rattle.odb_exec.specs.Faults.{IsNumberedExec}

-- the outcome that is recorded for an id
abbrev pub outcome_for : List (List ℕ × Outcome) → List ℕ → Option Outcome
outcome_for entries id = option_map (λ entry. entry.1) (find (λ entry. bytes_eq entry.0 id) entries)

-- what is recorded for each request of a batch, by position
abbrev pub recorded_for : List Record → List (List ℕ × Outcome) → List (Option Outcome)
recorded_for batch entries = map (λ request. outcome_for entries request.id) batch

-- the same with an outcome noted at a position, if there is one
abbrev pub noted_at : Option ℕ → List (Option Outcome) → Outcome → List (Option Outcome)
noted_at None outcomes outcome = outcomes
noted_at (Some i) outcomes outcome = slice_set outcomes i (Some outcome)

-- an outcome is offered as it is, and none as the fault that there is none
abbrev pub offered : Option Outcome → Result Outcome ServiceFault
offered (Some outcome) = Ok outcome
offered None = Err NoOutcome

-- just the outcome that is recorded for a position is offered for it, or that there is none
abbrev pub OffersRecorded : List (Option Outcome) → Offer
OffersRecorded outcomes i answer = answer ≡ offered (slice_index_or outcomes i None)

-- a call answers what is recorded for the position, and takes it out of the record
abbrev pub PerformsRecorded : Performing (List (Option Outcome))
PerformsRecorded before i request answer later = (answer ≡ offered (slice_index_or before i None)) × (later ≡ slice_set before i None)

-- a course in this order, with these recorded outcomes, finishes the run by these steps in the state `last`
abbrev pub Finishes : Order → List (Option Outcome) → State → List Step → State → Type 0
Finishes order recorded state steps last = IsFinishedBy (AllowsOrder order) (OffersRecorded recorded) state steps last

-- a course in this order, with these recorded outcomes, leads to the fault
abbrev pub Faults : Order → List (Option Outcome) → State → ExecFault → Type 0
Faults order recorded state cause = IsNumberedExec cause × IsCausedBy (OffersRecorded recorded) (IsReportEnabled (AllowsOrder order) (OffersRecorded recorded) state) cause

-- two finished courses have the same steps and end in the same state, so with the same answers
abbrev pub HasOneCourse : Order → List (Option Outcome) → State → Type 0
HasOneCourse order recorded state = (steps others : List Step) (last end : State) → Finishes order recorded state steps last → Finishes order recorded state others end
    → (steps ≡ others) × (last ≡ end)

-- two faults are one
abbrev pub HasOneFault : Order → List (Option Outcome) → State → Type 0
HasOneFault order recorded state = (cause other : ExecFault) → Faults order recorded state cause → Faults order recorded state other → cause ≡ other

-- if a course leads to a fault, none finishes the run
abbrev pub FaultsOrFinishes : Order → List (Option Outcome) → State → Type 0
FaultsOrFinishes order recorded state = (cause : ExecFault) (steps : List Step) (last : State) → Faults order recorded state cause → Finishes order recorded state steps last → ⊥
