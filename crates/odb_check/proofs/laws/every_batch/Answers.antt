use Rattle.odb_check.specs.Plans.{batch_plan_graph}
use Rattle.odb_check.proofs.PlanLemmas.{has_positions, is_plan_graph, is_plan_of, names_as_needs}
use Rattle.odb_check.proofs.laws.every_batch.Goals as goal

pub returns : goal.returns
unfolding batch_plan_graph
returns c = record {
  positions = has_positions;
  plan_graph = is_plan_graph;
  order = is_plan_of;
  names = names_as_needs;
}
