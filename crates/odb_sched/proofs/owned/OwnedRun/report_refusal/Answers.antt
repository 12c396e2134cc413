-- The first cause against a report, and that there is none.
use Rattle.std.proofs.Common.{◌≡◌, ◌∙◌, ap, sym, true}
use Rattle.std.proofs.lemmas.Bool.{and_from}
use Rattle.odb_doc.specs.declared.recorded.outcome.Outcome.{Outcome}
use Rattle.odb_doc.specs.Statuses.{is_status}
use Rattle.odb_sched.specs.run.State.{is_running, phase_at}
use Rattle.odb_sched.proofs.CauseLemmas.{first_idle, first_bad}
use Rattle.odb_sched.proofs.owned.OwnedRun.report_refusal.Goals as goal

pub returns-then-not-is_running-clause-cause : goal.returns-then-not-is_running-clause-cause
returns-then-not-is_running-clause-cause c =
    first_idle c.args.self.now c.args.i c.args.outcome.now (ap is_running (sym c.phase.ensures) ∙ sym c.is_running.ensures ∙ c.if-not-is_running.true)

pub returns-then-not-is_status-clause-cause : goal.returns-then-not-is_status-clause-cause
returns-then-not-is_status-clause-cause c =
    let runs : is_running (phase_at c.args.self.now c.args.i) ≡ true = ap is_running (sym c.phase.ensures) ∙ sym c.is_running.ensures ∙ c.if-not-is_running.false in
    first_bad c.args.self.now c.args.i c.args.outcome.now runs (ap (λ (outcome : Outcome). is_status outcome.status) (sym c.outcome.view_is) ∙ sym c.is_status.ensures ∙ c.if-not-is_status.true)

pub returns-clause-none : goal.returns-clause-none
returns-clause-none c = λ none. and_from _ _ (ap is_running (sym c.phase.ensures) ∙ sym c.is_running.ensures ∙ c.if-not-is_running.false) (ap (λ (outcome : Outcome). is_status outcome.status) (sym c.outcome.view_is) ∙ sym c.is_status.ensures ∙ c.if-not-is_status.false)
