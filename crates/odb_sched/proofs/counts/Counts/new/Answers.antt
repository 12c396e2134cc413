-- The parts are what is counted before any event.
use Rattle.std.proofs.Common.{◌≡◌, ◌==◌, ◌∙◌, ap, sym, subst, length, get_or, false, replicate}
use Rattle.odb_check.proofs.BelowLemmas.{length-list_below}
use Rattle.odb_dense.specs.declared.worklist.Mark.TheVariants.{Unvisited}
use Rattle.odb_sched.specs.invariants.Counts.{needs_in}
use Rattle.odb_sched.proofs.FirstLemmas.{first_counts}
use Rattle.odb_sched.proofs.counts.Counts.new.Goals as goal

pub without_any-requires : goal.without_any-requires
without_any-requires c = ap length (c.deref.ensures.value ∙ c.in_ok-unmet.ensures) ∙ length-list_below (length c.args.graph.now.plan_graph.units) (needs_in c.args.graph.now.plan_graph) ∙ sym c.len.ensures.size

pub returns : goal.returns
returns c = first_counts c.args.graph.now.plan_graph _ c.laws.ensures.order c.in_ok-unmet.ensures c.in_ok-member_counts.ensures.counts c.in_ok-member_counts.ensures.some
    (c.in_ok-new.ensures ∙ ap (λ n. replicate n Unvisited) c.unit_count.ensures)
    (c.in_ok-without_any.ensures.each ∙ c.len.ensures.size)
    (λ i inside. subst (λ ns. get_or c.in_ok-without_any.field-0 i false ≡ (get_or ns i 0 == 0)) c.deref.ensures.value (c.in_ok-without_any.ensures.exact i (rw c.len.ensures.size inside)))
    (c.in_ok-new-2.ensures ∙ ap (λ n. replicate n false) c.len-2.ensures.size)
    (c.in_ok-new-3.ensures _)
