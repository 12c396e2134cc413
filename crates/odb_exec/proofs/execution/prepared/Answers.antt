-- There is room for two steps of each request.
use Rattle.std.proofs.Common.{◌≡◌, arith, length}
use Rattle.odb_check.specs.Plans.{plan_records}
use Rattle.odb_exec.proofs.execution.prepared.Goals as goal

pub returns-clause-room : goal.returns-clause-room
returns-clause-room g =
    let few : g.len.result ≡ length (plan_records g.args.plan.now) = g.len.ensures.count in
    let room = g.in_ok-steps.ensures.capacity in
    omega arith
