use Rattle.std.proofs.Common.{sym, subst}
use Rattle.odb_sched.specs.run.Units.{FirstNeedsNothing, HasNextUnit, UnitsGoOn}
use Rattle.odb_tests_exec.proofs.laws.runs.ran_by_units.Goals as goal

pub returns-in-Ok : goal.returns-in-Ok
returns-in-Ok c =
    let policy = c.args.policy in
    let events = c.args.events.items in
    let is = c.in-Ok.ensures.run in
    let back = sym c.in-Ok.ensures.state in
    let units = c.every_unit.ensures in
    record {
      first = subst FirstNeedsNothing back (units.first policy events is);
      goes_on = subst UnitsGoOn back (units.goes_on policy events is);
      next = subst HasNextUnit back (units.next policy events is);
    }
