use Rattle.std.proofs.Common.{◌≡◌, ◌+◌, ◌-◌, ap₂, sym, subst, arith}
use Rattle.odb_doc.specs.Documents.{IsJson}
use Rattle.odb_spans.specs.Positions.{ValueLiesAt}
use Rattle.odb_spans.specs.Spans.{bytes_of}
use Rattle.odb_spans.specs.declared.span.Span.{Span}
use Rattle.odb_spans.proofs.locate.span_in_part.Goals as goal

pub returns-clause-lies : goal.returns-clause-lies
returns-clause-lies c d is =
    let part = c.args.part in
    let span = c.in_ok-span.span in
    let bytes = bytes_of c.args.line.now part in
    let same = c.bytes_in.ensures in
    let start : span.start ≡ part.start + span.start - part.start = omega arith in
    let end : span.end ≡ part.start + span.end - part.start = omega arith in
    let inner = c.in_ok-span.ensures.lies d (subst (λ text. IsJson text d) (sym same) is.reads) in
    record {
      after = omega arith;
      lies = subst (λ (at : Span). ValueLiesAt bytes at d c.args.place) (ap₂ (λ s e. record { start = s; end = e }) start end) (subst (λ text. ValueLiesAt text span d c.args.place) same inner);
    }
