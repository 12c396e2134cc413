use Rattle.odb_check.specs.Plans.{plan_graph, plan_records}
use Rattle.odb_check.proofs.PlanLemmas.{shaped, span_size}
use Rattle.odb_check.proofs.plan.Plan.unit_size.Goals as goal

pub returns-clause-size : goal.returns-clause-size
returns-clause-size c =
    span_size (plan_records c.args.self.now) (plan_graph c.args.self.now) c.args.u c.members-members.result.start c.members-members.result.end
    (shaped c.args.self.now) c.members-members.ensures.span
