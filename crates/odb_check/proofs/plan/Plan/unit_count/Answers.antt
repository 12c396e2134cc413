use Rattle.odb_check.specs.Plans.{batch_plan_graph}
use Rattle.odb_check.proofs.plan.Plan.unit_count.Goals as goal

pub returns-clause-size : goal.returns-clause-size
unfolding batch_plan_graph
returns-clause-size c = c.unit_count.ensures.count
