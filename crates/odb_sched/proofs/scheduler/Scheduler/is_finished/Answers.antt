use Rattle.std.proofs.Common.{◌↔◌, ◌≡◌, ◌<◌, ℕ, false, subst, IsTrue}
use Rattle.odb_sched.specs.run.State.{is_running, size, phase_at}
use Rattle.odb_sched.specs.run.Steps.{may_start}
use Rattle.odb_sched.proofs.scheduler.Scheduler.is_finished.Goals as goal

pub returns-clause-idle : goal.returns-clause-idle
returns-clause-idle c = subst (λ state. IsTrue c.is_finished.result ↔ ((i : ℕ) → i < size state → (may_start state i ≡ false) × (is_running (phase_at state i) ≡ false))) c.self.view_is c.is_finished.ensures.idle
