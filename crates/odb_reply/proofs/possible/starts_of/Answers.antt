use Rattle.std.proofs.Common.{ap, arith, ◌∙◌}
use Rattle.odb_check.specs.Plans.{plan_graph}
use Rattle.odb_reply.specs.Fits.{statuses}
use Rattle.odb_reply.specs.Starts.{can_start}
use Rattle.odb_reply.specs.StatusFaults.{status_at}
use Rattle.odb_reply.proofs.StartsLemmas.{starts-push}
use Rattle.odb_reply.proofs.possible.starts_of.Goals as goal

pub loop-i-preserved : goal.loop-i-preserved
loop-i-preserved c =
    let plan = plan_graph c.args.plan.now in
    let all = status_at (statuses c.args.table.now) in
    let units = c.args.units.now in
    let sent = c.args.sent.now in
    let i = c.loop-i.i in
    rw c.in_ok-push.ensures.items
    (starts-push plan all units sent c.loop-i.started.items c.can_start-can.result i c.every_plan.ensures.order (omega (arith, c.loop-i-test.true, c.len-i-end.ensures.size)) c.loop-i.invariant
    (c.can_start-can.ensures ∙ ap (λ flags. can_start plan all units sent flags i) c.deref.ensures.value))
