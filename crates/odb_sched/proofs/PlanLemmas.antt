-- The units and needs of a plan, position by position, as those of its requests.
use Rattle.std.proofs.Common.{◌≡◌, length}
use Rattle.odb_check.specs.declared.plan.Plan.{Plan}
use Rattle.odb_check.specs.Plans.{plan_records, plan_graph, batch_plan_graph}
use Rattle.odb_check.specs.Units.{unit_at}
use Rattle.odb_check.proofs.BelowLemmas.{length-list_below}

pub length-plan_graph : (source : Plan) → length (plan_graph source).units ≡ length (plan_records source)
unfolding batch_plan_graph
length-plan_graph source = length-list_below (length (plan_records source)) (unit_at (plan_records source))
