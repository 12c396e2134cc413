use Rattle.odb_doc.proofs.canonical.first_not_whole.Goals as goal

pub returns-then-not-has_whole_body-clause-first : goal.returns-then-not-has_whole_body-clause-first
returns-then-not-has_whole_body-clause-first c = record {
  within = rw c.len-i-end.ensures.count at c.loop-i-test.true;
  holds = λ whole. cc (c.if-not-has_whole_body.ensures.value.1 (rw c.request.ensures.value at whole));
  first = c.loop-i.invariant.whole;
}
