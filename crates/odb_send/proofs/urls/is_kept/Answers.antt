use Rattle.std.proofs.Common.{arith}
use Rattle.odb_check.proofs.PlanLemmas.{shaped}
use Rattle.odb_send.proofs.urls.is_kept.Goals as goal

pub unit_of-requires : goal.unit_of-requires
unit_of-requires c = omega (arith, (shaped c.args.plan.now).size, c.requires.request)
