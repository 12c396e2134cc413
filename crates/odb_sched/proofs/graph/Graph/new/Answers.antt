use Rattle.std.proofs.Common.{◌≡◌, ◌∙◌}
use Rattle.odb_check.specs.Plans.{plan_graph}
use Rattle.odb_sched.specs.declared.graph.Graph.TheInside.{Inside}
use Rattle.odb_sched.proofs.GraphLemmas.{graph_is, kept_is}
use Rattle.odb_sched.proofs.graph.Graph.new.Goals as goal

pub returns : goal.returns
returns c =
    let graph : Inside = record { units = c.in_ok-units_of.field-0; members = c.in_ok-members_of.field-0; needs = c.in_ok-copied.field-0; dependents = c.in_ok-all_dependents.field-0 } in
    let needs : c.in_ok-copied.field-0 ≡ (plan_graph c.args.plan.now).needs = c.in_ok-copied.ensures ∙ c.all_needs.ensures in
    kept_is graph (plan_graph c.args.plan.now) c.in_ok-units_of.ensures c.in_ok-members_of.ensures.len needs

pub invariant_of-result : goal.invariant_of-result
invariant_of-result c = graph_is _ (plan_graph c.args.plan.now) c.every_plan.ensures.order (returns c) c.in_ok-members_of.ensures.spans c.in_ok-all_dependents.ensures
