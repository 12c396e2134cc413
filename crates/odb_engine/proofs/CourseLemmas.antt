-- What a replay may write of a batch, by one document of outcomes, in an order: one text.
use Rattle.std.proofs.Common.{◌∙◌, Bool, List, Option, inl, inr, sym, ap, rules}
use Rattle.std.proofs.lemmas.Option.{same_Some}
use Rattle.serde_json.specs.Data.{Data}
use Rattle.odb_doc.specs.declared.recorded.outcome.Outcome.{Outcome}
use Rattle.odb_doc.specs.recorded.LeastOutcomeFault.{IsOutcomesDocument, RefusesOutcomes}
use Rattle.odb_doc.specs.recorded.OutcomeFaults as outcome_faults
use Rattle.odb_doc.specs.recorded.Outcomes.{Recorded, AreOutcomesOf}
use Rattle.odb_doc.specs.batch.Records.{Record}
use Rattle.odb_exec.specs.declared.execution.ExecFault.TheVariants as fault
use Rattle.odb_sched.specs.declared.order.Order.{Order}
use Rattle.odb_sched.specs.declared.policy.Policy.{Policy}
use Rattle.odb_exec.specs.Faults.{exec_row}
use Rattle.odb_sched.specs.run.Choosing.{AllowsOrder}
use Rattle.odb_exec.specs.Recordings.{Faults, HasOneCourse, HasOneFault, FaultsOrFinishes, recorded_for}
use Rattle.odb_sched.specs.run.State.{State, first_state}
use Rattle.odb_engine.specs.declared.form.Form.{Form}
use Rattle.odb_engine.specs.Cascade.{IsOne}
use Rattle.odb_engine.specs.Forms.{fault_text}
use Rattle.odb_doc.specs.Refusals.{Printed}
use Rattle.odb_engine.specs.Replays.{ReplaysEntries, ReplaysValue, LacksOutcome, result_text}
use Rattle.odb_engine.proofs.SecondLemmas.{IsOneKind, reading_one}

-- the laws of odb_sched on an order, at the start of a run and with recorded outcomes
pub record HasOrder (order : Order) (recorded : List (Option Outcome)) (first : State) : Type 0 where
  pub course : HasOneCourse order recorded first
  pub fault : HasOneFault order recorded first
  pub apart : FaultsOrFinishes order recorded first

module _ (order : Order) (policy : Policy) (traced : Bool) (batch : List Record) (entries : List Recorded) where
  missing : (refusal : Printed) (lacks : LacksOutcome (AllowsOrder order) policy batch entries refusal) → Faults order (recorded_for batch entries) (first_state batch policy) (fault.NoOutcome lacks.at)
  missing refusal lacks = (search rules, (lacks.due, lacks.none))

  one_replay : HasOrder order (recorded_for batch entries) (first_state batch policy) → (form : Form) → IsOne (ReplaysEntries (AllowsOrder order) policy traced batch entries form)
  one_replay law form a b s t (inl x) (inl y) =
      let (steps, last) = law.course x.steps y.steps x.last y.last x.course y.course in
      (x.ends ∙ sym y.ends, x.result ∙ ap (λ e. result_text traced e x.steps) last ∙ ap (λ e. result_text traced y.last e) steps ∙ sym y.result)
  one_replay law form a b s t (inl x) (inr y) = absurd (law.apart (fault.NoOutcome y.is.at) x.steps x.last (missing y.refusal y.is) x.course)
  one_replay law form a b s t (inr x) (inl y) = absurd (law.apart (fault.NoOutcome x.is.at) y.steps y.last (missing x.refusal x.is) y.course)
  one_replay law form a b s t (inr x) (inr y) =
      let same = law.fault (fault.NoOutcome x.is.at) (fault.NoOutcome y.is.at) (missing x.refusal x.is) (missing y.refusal y.is) in
      (x.ends ∙ sym y.ends, x.prints ∙ ap (fault_text form) (x.is.is ∙ same_Some _ _ (ap exec_row same) ∙ sym y.is.is) ∙ sym y.prints)

-- the laws of odb_doc on documents of outcomes
abbrev pub AreOneRecord : Type 0
AreOneRecord = IsOneKind outcome_faults.outcome_row RefusesOutcomes IsOutcomesDocument AreOutcomesOf

-- a batch and the value of a document of outcomes have one text
pub replays_value_one : (order : Order) → ((recorded : List (Option Outcome)) (first : State) → HasOrder order recorded first) → AreOneRecord
    → (policy : Policy) (traced : Bool) (batch : List Record) (value : Data) (form : Form) → IsOne (ReplaysValue (AllowsOrder order) policy traced batch value form)
replays_value_one order courses law policy traced batch =
    reading_one outcome_faults.outcome_row RefusesOutcomes IsOutcomesDocument AreOutcomesOf law (ReplaysEntries (AllowsOrder order) policy traced batch)
    (λ entries. one_replay order policy traced batch entries (courses (recorded_for batch entries) (first_state batch policy)))
