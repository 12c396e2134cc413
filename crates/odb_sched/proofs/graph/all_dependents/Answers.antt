-- The rows of the pairs are those of the dependents.
use Rattle.std.proofs.Common.{◌≡◌, ◌+◌, ◌∙◌, arith, length}
use Rattle.odb_check.specs.Plans.{plan_graph}
use Rattle.odb_sched.proofs.NeedPairLemmas.{pairs_keyed, dependents_are}
use Rattle.odb_sched.proofs.graph.all_dependents.Goals as goal

pub of-requires : goal.of-requires
of-requires c =
    let keys : c.len.result + c.unit_count.result ≡ length (plan_graph c.args.plan.now).units + (plan_graph c.args.plan.now).unit_count = omega (arith, c.len.ensures.size, c.unit_count.ensures.size) in
    pairs_keyed (plan_graph c.args.plan.now) _ _ c.every_plan.ensures.order keys (c.deref.ensures.value ∙ c.in_ok-pairs_of.ensures)

pub returns : goal.returns
returns c =
    let keys : c.len.result + c.unit_count.result ≡ length (plan_graph c.args.plan.now).units + (plan_graph c.args.plan.now).unit_count = omega (arith, c.len.ensures.size, c.unit_count.ensures.size) in
    dependents_are (plan_graph c.args.plan.now) _ _ c.of.result keys (c.deref.ensures.value ∙ c.in_ok-pairs_of.ensures) c.of.ensures.len c.of.ensures.rows
