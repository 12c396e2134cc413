use Rattle.std.proofs.Common.{◌<◌, length, arith}
use Rattle.odb_check.specs.Plans.{plan_records}
use Rattle.odb_check.proofs.PlanLemmas.{shaped}
use Rattle.odb_send.proofs.units.is_marked.Goals as goal

pub unit_of-requires : goal.unit_of-requires
unit_of-requires c =
    let within : c.in-One.r < length (plan_records c.args.plan.now) = rw c.in-One.is at c.requires.need in
    omega (arith, (shaped c.args.plan.now).size)
