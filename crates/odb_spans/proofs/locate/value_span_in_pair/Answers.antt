use Rattle.std.proofs.Common.{◌∙◌, sym}
use Rattle.odb_spans.proofs.PairLemmas.{if-first, if-second, no-pair}
use Rattle.odb_spans.proofs.locate.value_span_in_pair.Goals as goal

pub returns-then-is_in_batch-clause-lies : goal.returns-then-is_in_batch-clause-lies
returns-then-is_in_batch-clause-lies c =
    let found = c.in-Some.ensures in
    if-first c.args.line.now c.value_start.result c.value_start.ensures c.in-Some.batch c.in-Some.second found.2 found.3 c.args.place c.span_in_part.result (sym c.is_in_batch.ensures ∙ c.if-is_in_batch.true) c.span_in_part.ensures.lies

pub returns-else-is_in_batch-clause-lies : goal.returns-else-is_in_batch-clause-lies
returns-else-is_in_batch-clause-lies c =
    let found = c.in-Some.ensures in
    if-second c.args.line.now c.value_start.result c.value_start.ensures c.in-Some.batch c.in-Some.second found.2 found.3 c.args.place c.span_in_part-else-is_in_batch.result (sym c.is_in_batch.ensures ∙ c.if-is_in_batch.false) c.span_in_part-else-is_in_batch.ensures.lies

pub returns-in-None-clause-lies : goal.returns-in-None-clause-lies
returns-in-None-clause-lies c = record {
  pairs = λ batch second is. absurd (no-pair c.args.line.now c.value_start.result c.value_start.ensures c.in-None.ensures batch second is);
  others = λ d is none. c.whole_span.ensures.lies d is;
}
