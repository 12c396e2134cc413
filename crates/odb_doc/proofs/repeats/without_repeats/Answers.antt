use Rattle.std.proofs.Common.{arith, bytes_eq, sym}
use Rattle.std.specs.List.{IsDistinct}
use Rattle.odb_doc.specs.Names.{texts_in}
use Rattle.odb_doc.proofs.RepeatLemmas.{distinct_same, distinct_short}
use Rattle.odb_doc.proofs.repeats.without_repeats.Goals as goal

pub returns : goal.returns
returns c =
    let apart : IsDistinct bytes_eq (texts_in c.args.texts.items) = rw c.as_slice.ensures at (c.in_ok-may_repeat.ensures.apart c.if-branch.false) in
    sym (distinct_same (texts_in c.args.texts.items) apart)

pub returns-then-len-le1 : goal.returns-then-len-le1
returns-then-len-le1 c = distinct_short c.args.texts.items (omega arith)
