use Rattle.std.proofs.Common.{rules, subst, sym, IfOk}
use Rattle.odb_check.specs.Plans.{plan_graph}
use Rattle.odb_reply.specs.Fits.{statuses}
use Rattle.odb_reply.specs.Starts.{met_outside, AreSent}
use Rattle.odb_reply.specs.StatusFaults.{status_at}
use Rattle.odb_reply.proofs.possible.sent_units.Goals as goal

pub returns-in-Units : goal.returns-in-Units
returns-in-Units c =
    let plan = plan_graph c.args.plan.now in
    let all = status_at (statuses c.args.table.now) in
    let units = c.args.units.now in
    subst (λ by. IfOk c.passing_units.result (λ sent. AreSent by plan all units sent.items)) (sym c.in-Units.is)
    (c.passing_units.ensures (met_outside plan all units) (λ i answer less post. search rules))
