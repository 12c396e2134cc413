use Rattle.std.proofs.Common.{◌<◌, All, arith, length, subst, sym}
use Rattle.odb_check.specs.PlanGraph.{IsNeed}
use Rattle.odb_sched.proofs.SpanLemmas.{known_needs}
use Rattle.odb_sched.proofs.graph.Graph.needs.Goals as goal

pub row-requires : goal.row-requires
row-requires c =
    let within : c.args.i < length c.self.inside.units.items = subst (λ g. c.args.i < length g.plan_graph.units) (sym c.self.view_is) c.requires in
    omega (arith, c.self.invariant.order.as_long)

pub returns-clause-needs : goal.returns-clause-needs
returns-clause-needs c = rw (← c.self.view_is) c.row.ensures.row

pub returns-clause-known : goal.returns-clause-known
returns-clause-known c = subst (All (IsNeed c.args.self.now.plan_graph)) (sym (returns-clause-needs c))
    (rw (← c.self.view_is) (known_needs _ c.args.i c.self.invariant.order (subst (λ g. c.args.i < length g.plan_graph.units) (sym c.self.view_is) c.requires)))
