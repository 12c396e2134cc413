use Rattle.odb_check.specs.declared.need.Need.TheVariants.{One}
use Rattle.odb_reply.proofs.fits.has_failed_need.Goals as goal

pub is_satisfied-requires : goal.is_satisfied-requires
is_satisfied-requires c =
    let known = c.needs-need-items.ensures.known c.loop-need.need-index (One 0) c.loop-need-test.true in
    rw (c.requires.statuses, c.requires.units.count, ← c.every_plan.ensures.plan_graph.size) known

pub needs-need-items-requires : goal.needs-need-items-requires
needs-need-items-requires c = rw c.every_plan.ensures.plan_graph.size c.requires.request
