use Rattle.std.proofs.Common.{◌∙◌, ap, length}
use Rattle.std.proofs.lemmas.Result.{IfOk-weaker}
use Rattle.odb_check.specs.PlanGraph.{PlanGraph}
use Rattle.odb_sched.specs.run.State.{size}
use Rattle.odb_sched.proofs.PlanLemmas.{length-plan_graph}
use Rattle.odb_sched.proofs.owned.OwnedRun.new.Goals as goal

pub returns-clause-size : goal.returns-clause-size
returns-clause-size c = IfOk-weaker c.of_graph.result _ _ (λ run is. ap size is ∙ ap (λ (s : PlanGraph). length s.units) c.in_ok-new.ensures ∙ length-plan_graph c.args.plan.now) c.of_graph.ensures
