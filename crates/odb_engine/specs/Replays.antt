-- What a run by recorded outcomes writes of a batch.
use Rattle.std.specs.Prelude.{◌≡◌, ◌⊎◌, ℕ, Bool, List, ◌++◌, Option, All, Err, codes}
use Rattle.serde_json.specs.Data.{Data}
use Rattle.odb_doc.specs.declared.fault.Place.TheVariants as places
use Rattle.odb_doc.specs.recorded.LeastOutcomeFault.{IsOutcomesDocument, RefusesOutcomes}
use Rattle.odb_doc.specs.recorded.OutcomeFaults.{outcome_row}
use Rattle.odb_doc.specs.recorded.OutcomeValues.{IsRecordable}
use Rattle.odb_doc.specs.recorded.Outcomes.{Recorded, AreOutcomesOf}
use Rattle.odb_doc.specs.batch.Records.{Record}
use Rattle.odb_sched.specs.declared.policy.Policy.{Policy}
use Rattle.odb_exec.specs.declared.service.ServiceFault.TheVariants.{NoOutcome}
use Rattle.odb_sched.specs.declared.event.Step.{Step}
use Rattle.odb_sched.specs.run.State.{State, first_state}
use Rattle.odb_sched.specs.run.Choosing.{Allowance}
use Rattle.odb_exec.specs.Courses.{Offer, IsReportEnabled, IsFinishedBy}
use Rattle.odb_exec.specs.Recordings.{recorded_for, OffersRecorded}
use Rattle.odb_reply.specs.Responses.{response_value}
use Rattle.odb_reply.specs.declared.strictness.Strictness.TheVariants.{Requests}
use Rattle.odb_reply.specs.OnePerId.{HasOnePerId}
use Rattle.odb_sched.specs.run.Laws.{StartsAfterDependencies}
use Rattle.odb_engine.specs.declared.ending.Ended.{Ended}
use Rattle.odb_engine.specs.declared.ending.Ended.TheVariants.{Done}
use Rattle.odb_engine.specs.ResponseLines.{response_line}
use Rattle.odb_text.specs.Traces.{trace_part}
use Rattle.odb_doc.specs.Refusals.{Printed}
use Rattle.odb_engine.specs.Cascade.{WritesIn, Reports, HasFault, OfDocument}
use Rattle.odb_engine.specs.Inputs.{BySecond}
use Rattle.odb_engine.specs.ReadAgain.{IsReadAgain}

-- the response as a line, after the trace if one is wanted
abbrev pub result_text : Bool → State → List Step → List ℕ
result_text traced state steps = trace_part traced state steps ++ response_line state

-- what is offered by these recorded outcomes
abbrev pub offers_of : List Record → List Recorded → Offer
offers_of batch entries = OffersRecorded (recorded_for batch entries)

-- The result of a finished course of the batch, under the policy, by the chooser and by the recorded outcomes. In it no
-- request starts before all that it names has ended with 2xx, and the response has exactly one element per id. It is read
-- again as such, if a document can record the outcomes.
pub record IsResult (allows : Allowance) (policy : Policy) (traced : Bool) (batch : List Record) (entries : List Recorded) (ended : Ended) (text : List ℕ) : Type 0 where
  pub ends : ended ≡ Done
  pub steps : List Step
  pub last : State
  pub course : IsFinishedBy allows (offers_of batch entries) (first_state batch policy) steps last
  pub result : text ≡ result_text traced last steps
  pub dependencies_first : StartsAfterDependencies batch course.events
  pub one_per_id : HasOnePerId batch (response_value last)
  pub read_again : All (λ (entry : Recorded). IsRecordable entry.1) entries → IsReadAgain Requests batch (response_line last)

-- a request whose report is due after some course has no outcome
pub record LacksOutcome (allows : Allowance) (policy : Policy) (batch : List Record) (entries : List Recorded) (refusal : Printed) : Type 0 where
  pub at : ℕ
  pub due : IsReportEnabled allows (offers_of batch entries) (first_state batch policy) at
  pub none : offers_of batch entries at (Err NoOutcome)
  pub is : refusal ≡ record { code = codes "F80"; name = codes "NoOutcome"; place = places.Request at }

-- what is written of a batch by recorded outcomes
abbrev pub ReplaysEntries : Allowance → Policy → Bool → List Record → List Recorded → WritesIn
ReplaysEntries allows policy traced batch entries form ended text = IsResult allows policy traced batch entries ended text ⊎ Reports (LacksOutcome allows policy batch entries) form ended text

-- the least fault of the value of an outcomes document
abbrev pub IsFaultOfOutcomes : Data → Printed → Type 0
IsFaultOfOutcomes = HasFault RefusesOutcomes outcome_row

-- the value is a document of these outcomes
abbrev pub IsRecordOf : Data → List Recorded → Type 0
IsRecordOf value entries = IsOutcomesDocument value × AreOutcomesOf value entries

-- what is written of a batch and the value of an outcomes document
abbrev pub ReplaysValue : Allowance → Policy → Bool → List Record → Data → WritesIn
ReplaysValue allows policy traced batch value form ended text = Reports (IsFaultOfOutcomes value) form ended text ⊎ ((entries : List Recorded) × IsRecordOf value entries × ReplaysEntries allows policy traced batch entries form ended text)

-- the same of the bytes of an outcomes document
abbrev pub ReplaysBatch : Allowance → Policy → Bool → List Record → List ℕ → WritesIn
ReplaysBatch allows policy traced batch = OfDocument places.Outcomes (ReplaysValue allows policy traced batch)

-- what is written of a batch by the outcomes document of a reader
abbrev pub Replays : Allowance → Policy → Bool → Option (List ℕ) → List Record → WritesIn
Replays allows policy traced left = BySecond left (ReplaysBatch allows policy traced)
