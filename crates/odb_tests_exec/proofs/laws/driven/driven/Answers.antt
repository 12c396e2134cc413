use Rattle.std.proofs.Common.{[]}
use Rattle.odb_check.specs.Plans.{plan_records}
use Rattle.odb_tests_exec.proofs.laws.driven.driven.Goals as goal

pub returns : goal.returns
returns c =
    let policy = c.args.policy in
    let laws = c.every_plan.ensures in
    let is = c.takes_all-taken.ensures policy (record { events = []; live = tt; after = c.in-Ok.ensures.state }) in
    record { events = is.events; after = is.after; keeps = c.every_live_run.ensures.kept (plan_records c.args.plan.now) policy is.events laws.order laws.names is.live }
