use Rattle.std.proofs.Common.{sym, subst}
use Rattle.odb_spans.specs.Positions.{ValueLiesAt}
use Rattle.odb_spans.specs.declared.span.Span.{Span}
use Rattle.odb_spans.proofs.locate.position_by.Goals as goal

pub returns-clause-stands : goal.returns-clause-stands
returns-clause-stands c = record {
  counts = c.at.ensures.counts;
  lies = λ d is. subst (λ (span : Span). ValueLiesAt c.args.document.now span d c.args.place) (sym c.at.ensures.span) (c.in_ok-span.ensures.lies d is);
}
