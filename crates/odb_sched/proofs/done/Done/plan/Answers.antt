use Rattle.std.proofs.Common.{◌∙◌, ap, length}
use Rattle.odb_check.specs.PlanGraph.{PlanGraph}
use Rattle.odb_sched.proofs.PlanLemmas.{length-plan_graph}
use Rattle.odb_sched.proofs.done.Done.plan.Goals as goal

pub returns-clause-size : goal.returns-clause-size
returns-clause-size c = rw (← c.self.view_is) (ap (λ (s : PlanGraph). length s.units) c.self.invariant.of_plan ∙ length-plan_graph c.self.inside.plan.now)
