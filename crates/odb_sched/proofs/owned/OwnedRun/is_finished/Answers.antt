-- No position may start and none runs exactly when the run is finished.
use Rattle.std.proofs.Common.{◌↔◌, ◌∙◌, ap, sym, subst, ℕ, ◌<◌, ◌≡◌, false, IsTrue}
use Rattle.odb_sched.specs.run.State.{is_running, size, phase_at}
use Rattle.odb_sched.specs.run.Steps.{is_finished, may_start}
use Rattle.odb_sched.proofs.KeptLemmas.{finished_idle}
use Rattle.odb_sched.proofs.CountedLemmas.{finished_is}
use Rattle.odb_sched.proofs.owned.OwnedRun.is_finished.Goals as goal

pub returns-clause-value : goal.returns-clause-value
returns-clause-value c = c.is_finished.ensures ∙ finished_is _ _ c.self.invariant.reached c.self.invariant.counts ∙ ap is_finished c.self.view_is

pub returns-clause-idle : goal.returns-clause-idle
returns-clause-idle c = subst (λ answer. IsTrue answer ↔ ((i : ℕ) → i < size c.args.self.now → (may_start c.args.self.now i ≡ false) × (is_running (phase_at c.args.self.now i) ≡ false)))
    (sym (returns-clause-value c)) (finished_idle c.args.self.now (rw (← c.self.view_is) c.self.invariant.reached))
