use Rattle.std.proofs.Common.{arith}
use Rattle.odb_check.proofs.PlanLemmas.{shaped}
use Rattle.odb_send.proofs.next_part.fn.waiting_units.barred_units+arg4.Goals as goal

pub unit_of-requires : goal.unit_of-requires
unit_of-requires c = omega (arith, (shaped c.captures.plan.now).size, c.requires.request)

pub bounds-left-unit_of : goal.bounds-left-unit_of
bounds-left-unit_of c = omega (arith, c.unit_of.ensures.within, c.requires.count)
