-- A document of events that records the course of a replay.
use Rattle.std.specs.Prelude.{◌≡◌, ℕ, Bool, List, Some}
use Rattle.std.specs.List.{AllZip}
use Rattle.odb_doc.specs.recorded.Events.{EventValue}
use Rattle.odb_doc.specs.recorded.Events as named
use Rattle.odb_doc.specs.recorded.Outcomes.{Recorded}
use Rattle.odb_doc.specs.batch.Records.{Record}
use Rattle.odb_check.specs.Positions.{id_at}
use Rattle.odb_sched.specs.declared.event.Step.{Step}
use Rattle.odb_sched.specs.declared.event.Step.TheVariants as step
use Rattle.odb_sched.specs.declared.policy.Policy.{Policy}
use Rattle.odb_sched.specs.run.Choosing.{Allowance}
use Rattle.odb_sched.specs.run.State.{State, first_state}
use Rattle.odb_exec.specs.Courses.{IsFinishedBy}
use Rattle.odb_exec.specs.Recordings.{outcome_for}
use Rattle.odb_engine.specs.ResponseLines.{response_line}
use Rattle.odb_engine.specs.Cascade.{Answers, HasValue}
use Rattle.odb_engine.specs.declared.ending.Ended.TheVariants.{Done}
use Rattle.odb_engine.specs.declared.form.Form.{Form}
use Rattle.odb_engine.specs.Replays.{IsRecordOf, offers_of, result_text}
use Rattle.odb_engine.specs.Runs.{AreEventsIn, Runs}

-- the event of a step: the start of its request, or its report with the outcome that is recorded for it
abbrev pub IsEventOf : List Record → List Recorded → Step → EventValue → Type 0
IsEventOf batch entries (step.Start i) (named.Start id) = id_at batch i ≡ Some id
IsEventOf batch entries (step.Start i) (named.Report id outcome) = ⊥
IsEventOf batch entries (step.Report i) (named.Start id) = ⊥
IsEventOf batch entries (step.Report i) (named.Report id outcome) = (id_at batch i ≡ Some id) × (outcome_for entries id ≡ Some outcome)

-- the bytes are a document of the events of these steps, one by one
pub record RecordsSteps (batch : List Record) (entries : List Recorded) (steps : List Step) (events : List ℕ) : Type 0 where
  pub named : List EventValue
  pub named_in : AreEventsIn events named
  pub are : AllZip (IsEventOf batch entries) steps named

-- What a replay writes as its result is that of a course by the recorded outcomes: its trace, if one is wanted, and its
-- response. And each document of events that records this course runs to the same response.
pub record RunsAgain (allows : Allowance) (policy : Policy) (traced : Bool) (form : Form) (bytes outcomes text : List ℕ) (batch : List Record) : Type 0 where
  pub entries : List Recorded
  pub recorded : HasValue outcomes (λ value. IsRecordOf value entries)
  pub steps : List Step
  pub last : State
  pub course : IsFinishedBy allows (offers_of batch entries) (first_state batch policy) steps last
  pub result : text ≡ result_text traced last steps
  pub again : (events : List ℕ) → RecordsSteps batch entries steps events → Answers (Runs policy (Some events)) bytes form Done (response_line last)
