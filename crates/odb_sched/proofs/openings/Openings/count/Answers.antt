-- There are no more members than requests.
use Rattle.std.proofs.Common.{◌<◌, ◌≤◌, ◌∙◌, arith, length}
use Rattle.std.proofs.lemmas.List.{get_or_read}
use Rattle.odb_check.proofs.FirstLemmas.{count_few}
use Rattle.odb_sched.specs.invariants.Openings.{waiting_below}
use Rattle.odb_sched.proofs.openings.Openings.count.Goals as goal

pub overflow_add-index_mut : goal.overflow_add-index_mut
overflow_add-index_mut c =
    let plan = c.args.graph.now.plan_graph in
    let waiting = c.loop-i.self.waiting.items in
    let within : c.unit_of.result < length waiting = rw c.loop-i.invariant.entries.waiting c.unit_of.ensures.counted in
    let counted = get_or_read waiting c.unit_of.result c.index_mut-then-own-unmet.result.now within c.index_mut-then-own-unmet.ensures.value 0 ∙ c.loop-i.invariant.waiting c.unit_of.result c.unit_of.ensures.counted in
    let few : waiting_below plan c.args.unmet.now c.loop-i.i c.unit_of.result ≤ c.loop-i.i = count_few c.loop-i.i _ in
    omega (arith, counted, few, c.loop-i-test.true, c.len-i-end.ensures.small)
