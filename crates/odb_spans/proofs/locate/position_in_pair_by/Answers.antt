use Rattle.std.proofs.Common.{sym, subst}
use Rattle.odb_spans.specs.Positions.{LiesInPair}
use Rattle.odb_spans.specs.declared.span.Span.{Span}
use Rattle.odb_spans.proofs.locate.position_in_pair_by.Goals as goal

pub returns-clause-stands : goal.returns-clause-stands
returns-clause-stands c = record {
  counts = c.at.ensures.counts;
  lies = subst (λ (span : Span). LiesInPair c.args.line.now span c.args.place) (sym c.at.ensures.span) c.in_ok-span.ensures.lies;
}
