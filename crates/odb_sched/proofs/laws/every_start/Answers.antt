-- The clauses are the laws of the lemmas, at the requests of the plan.
use Rattle.std.proofs.Common.{◌≡◌, ◌≤◌, ap, arith, length, subst, sym}
use Rattle.odb_check.specs.PlanGraph.{HasNamesAsNeeds, IsPlanGraphOf}
use Rattle.odb_check.specs.Plans.{plan_records}
use Rattle.odb_sched.specs.run.State.{size, plan_graph}
use Rattle.odb_sched.proofs.CauseLemmas.{not_held_back}
use Rattle.odb_sched.proofs.LivePromiseLemmas.{named_single}
use Rattle.odb_sched.proofs.StartLemmas.{may_start-parts}
use Rattle.odb_sched.proofs.laws.every_start.Goals as goal

pub returns-clause-dependencies_first : goal.returns-clause-dependencies_first
returns-clause-dependencies_first c = λ state i same may.
    named_single (plan_records c.args.plan.now) state (subst (IsPlanGraphOf (plan_records c.args.plan.now)) (sym same) c.every_plan.ensures.plan_graph) (subst (HasNamesAsNeeds (plan_records c.args.plan.now)) (sym same) c.every_plan.ensures.names) i (may_start-parts state i may).satisfied

pub returns-clause-free : goal.returns-clause-free
returns-clause-free c = λ state i same each within wide.
    let few : length (plan_graph c.args.plan.now).units ≤ 10000 = c.every_plan.ensures.order.few in
    let units : size state ≡ length (plan_graph c.args.plan.now).units = ap (λ plan_graph. length plan_graph.units) same in
    not_held_back state i each within (omega arith)
