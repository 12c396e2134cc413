use Rattle.std.proofs.Common.{◌∙◌, ◌<◌, List, All, length, arith, subst, sym}
use Rattle.std.proofs.lemmas.List.Sorted.{All-permutation, Contains-permutation}
use Rattle.odb_check.specs.Plans.{plan_records}
use Rattle.odb_live.specs.LabelTables.{AreById, values_of}
use Rattle.odb_live.specs.declared.run.labels.OwnedLabel.{OwnedLabel}
use Rattle.odb_live.proofs.LabelLemmas.{labels-apart, labels-count}
use Rattle.odb_live.proofs.run.labels.OwnedLabels.of.Goals as goal

pub invariant_of-result : goal.invariant_of-result
invariant_of-result c =
    let batch = plan_records c.args.plan.now in
    let labels = c.in_ok-labels.labels.items in
    let below = c.in_ok-by_id.by_id.items in
    let sorted = c.sort_by_id.new.positions.items in
    let moved = c.sort_by_id.ensures.permutation in
    let count = labels-count batch labels c.in_ok-labels.ensures in
    let within = c.in_ok-by_id.ensures.within in
    record {
      sorted = subst (λ (ls : List OwnedLabel). AreById ls sorted) c.deref.ensures.value c.in_ok-sort_by_id.ensures.sorted;
      all = λ i less. Contains-permutation below sorted i moved (c.in_ok-by_id.ensures.all i (omega (arith, less, count, c.len.ensures.count)));
      within = All-permutation (λ i. i < length labels) below sorted moved (subst (λ n. All (λ i. i < n) below) (c.len.ensures.count ∙ sym count) within);
      apart = labels-apart batch c.every_plan.ensures.positions (values_of labels) c.in_ok-labels.ensures;
    }
