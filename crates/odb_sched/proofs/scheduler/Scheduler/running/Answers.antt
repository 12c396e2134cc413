-- No unit was sent as one, so no more requests run than the width allows.
use Rattle.std.proofs.Common.{◌≡◌, ◌≤◌, ◌+◌, ap, arith, length}
use Rattle.odb_sched.specs.run.State.{State}
use Rattle.odb_sched.specs.run.Steps.{spare_in}
use Rattle.odb_sched.proofs.scheduler.Scheduler.running.Goals as goal

pub returns-clause-width : goal.returns-clause-width
returns-clause-width c =
    let most : length c.running.result.now ≤ c.self.inside.run.policy.width + spare_in c.self.inside.run.awaited = c.running.ensures.width in
    let none : spare_in c.self.inside.run.awaited ≡ 0 = c.self.invariant.one_by_one in
    let same : c.self.inside.run.policy.width ≡ c.args.self.now.policy.width = ap (λ (state : State). state.policy.width) c.self.view_is in
    omega (arith, most, none, same)
