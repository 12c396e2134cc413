-- No unit has begun, and none was asked for.
use Rattle.std.proofs.Common.{◌∙◌, ap, length, refl, false, replicate}
use Rattle.std.proofs.lemmas.List.{length-replicate}
use Rattle.odb_sched.proofs.OpeningLemmas.{openings_first}
use Rattle.odb_sched.proofs.openings.Openings.new.Goals as goal

pub returns : goal.returns
returns c = λ unmet.
    let begun = c.in_ok-begun.ensures.items_if_clones_equal (λ y same. same) in
    let inner = c.in_ok-inner.ensures.items_if_clones_equal (λ y same. same) in
    let waiting = c.in_ok-waiting.ensures.items_if_clones_equal (λ y same. same) in
    openings_first c.args.graph.now.plan_graph unmet _
    (record {
      begun = ap length begun ∙ length-replicate _ false ∙ c.unit_count.ensures;
      inner = ap length inner ∙ length-replicate _ 0 ∙ c.len.ensures.size;
      waiting = ap length waiting ∙ length-replicate _ 0 ∙ c.unit_count-2.ensures;
      free = ap length c.in_ok-new.ensures ∙ length-replicate _ false ∙ c.unit_count-3.ensures;
    })
    (begun ∙ ap (λ n. replicate n false) c.unit_count.ensures) refl
