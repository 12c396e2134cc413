use Rattle.odb_sched.specs.run.State.{size, phase_at, is_running}
use Rattle.odb_sched.specs.run.Steps.{may_start}
use Rattle.odb_exec.proofs.ChoiceLemmas.{some_listed}
use Rattle.odb_sched.proofs.ChoiceLemmas.{positions-listed}
use Rattle.odb_exec.proofs.CourseLemmas.{next-from}
use Rattle.odb_exec.proofs.execution.next_choice.Goals as goal

pub pick-requires : goal.pick-requires
pick-requires g c = some_listed (size c.args.scheduler.now) (may_start c.args.scheduler.now) (λ i. is_running (phase_at c.args.scheduler.now i)) c.ready.result.now c.running.result.now c.is_finished.result
    c.ready.ensures.listed c.running.ensures.listed c.is_finished.ensures.idle c.if-is_finished.false

pub returns-clause-next : goal.returns-clause-next
returns-clause-next g c = next-from ((goal.Chooser-dyn g c.args.chooser.now).allows c.args.chooser.now.1) c.args.scheduler.now c.ready.result.now c.running.result.now c.pick.result
    c.ready.ensures.listed c.running.ensures.listed c.pick.ensures.among c.pick.ensures.allowed

pub returns-clause-chosen : goal.returns-clause-chosen
returns-clause-chosen g c =
    let state = c.args.scheduler.now in
    rw (← positions-listed (size state) (may_start state) c.ready.result.now c.ready.ensures.listed, ← positions-listed (size state) (λ i. is_running (phase_at state i)) c.running.result.now c.running.ensures.listed)
    c.pick.ensures.chosen
