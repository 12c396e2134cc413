use Rattle.std.proofs.Common.{◌∙◌, get_or, refl, sym}
use Rattle.std.specs.List.{IsDistinct}
use Rattle.odb_doc.proofs.RepeatLemmas.{no_text, distinct_more}
use Rattle.odb_doc.proofs.repeats.repeats_among_few.Goals as goal

pub loop-k-init : goal.loop-k-init
unfolding IsDistinct
loop-k-init c = tt

pub loop-k-preserved : goal.loop-k-preserved
loop-k-preserved c =
    let none = sym c.contains.ensures.value ∙ c.if-contains.false in
    distinct_more c.args.texts.now c.loop-k.k (get_or c.args.texts.now c.loop-k.k no_text) c.loop-k-test.true refl c.loop-k.invariant none
