-- The step is picked among all that may start and all that run.
use Rattle.odb_sched.specs.run.Choosing.{AllowsOrder}
use Rattle.odb_sched.specs.run.State.{size, phase_at, is_running}
use Rattle.odb_sched.specs.run.Steps.{may_start}
use Rattle.odb_exec.proofs.ChoiceLemmas.{some_listed}
use Rattle.odb_exec.proofs.CourseLemmas.{next-from}
use Rattle.odb_calls.proofs.next.next_in.Goals as goal

pub pick-requires : goal.pick-requires
pick-requires c = some_listed (size c.args.run.now) (may_start c.args.run.now) (λ i. is_running (phase_at c.args.run.now i)) c.ready.result.now c.running.result.now c.is_finished.result
    c.ready.ensures.listed c.running.ensures.listed c.is_finished.ensures.idle c.if-is_finished.false

pub returns-clause-next : goal.returns-clause-next
returns-clause-next c = next-from (AllowsOrder c.args.order) c.args.run.now c.ready.result.now c.running.result.now c.pick.result
    c.ready.ensures.listed c.running.ensures.listed c.pick.ensures.among c.pick.ensures.allowed
