-- A plan as the requests of its batch, and as their units and needs.
use Rattle.std.specs.Prelude.{List}
use Rattle.odb_doc.specs.batch.Records.{Record}
use Rattle.odb_check.specs.declared.plan.Plan.{Plan}
use Rattle.odb_check.specs.Requests.{requests}
use Rattle.odb_check.specs.PlanGraph.{PlanGraph, plan_graph_of}

-- the requests, in order
abbrev pub plan_records : Plan → List Record
plan_records plan = requests plan.tables

-- The units and needs of these requests. The word is closed, since a run asks for no more of them than the laws of a plan.
unfoldable pub batch_plan_graph : List Record → PlanGraph
batch_plan_graph requests = plan_graph_of requests

-- those of the requests of a plan
abbrev pub plan_graph : Plan → PlanGraph
plan_graph plan = batch_plan_graph (plan_records plan)
