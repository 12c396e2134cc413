use Rattle.std.proofs.Common.{arith}
use Rattle.odb_check.specs.Plans.{plan_records, batch_plan_graph}
use Rattle.odb_check.proofs.PlanLemmas.{is_plan, names_as_needs}
use Rattle.odb_check.proofs.laws.every_plan.Goals as goal

pub returns-clause-order : goal.returns-clause-order
unfolding batch_plan_graph
returns-clause-order c = is_plan (plan_records c.args.plan.now) c.args.plan.now.good (omega (arith, c.len-count.ensures.count, c.len-count.ensures.small)) c.args.plan.now.tables.exact.names_apart

pub returns-clause-names : goal.returns-clause-names
unfolding batch_plan_graph
returns-clause-names c = names_as_needs (plan_records c.args.plan.now) c.args.plan.now.good
