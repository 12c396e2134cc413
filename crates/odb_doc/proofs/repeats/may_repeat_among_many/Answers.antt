use Rattle.std.proofs.Common.{rules}
use Rattle.odb_doc.proofs.RepeatLemmas.{distinct_as_sorted}
use Rattle.odb_doc.proofs.repeats.may_repeat_among_many.Goals as goal

pub returns : goal.returns
returns c = λ none.
    let moved = rw c.in_ok-sorted.ensures.items at c.sort_unstable.ensures.permutation in
    distinct_as_sorted c.args.texts.now c.sort_unstable.new.self.items moved (search rules)
