use Rattle.odb_check.specs.Plans.{plan_graph, plan_records}
use Rattle.odb_text.proofs.DrawingLemmas.{first_member}
use Rattle.odb_text.proofs.rows.first_of_unit.Goals as goal

pub returns : goal.returns
returns c =
    first_member (plan_records c.args.plan.now) (plan_graph c.args.plan.now) c.args.unit c.members.result.start c.members.result.end
    c.every_plan.ensures.plan_graph c.members.ensures.span
