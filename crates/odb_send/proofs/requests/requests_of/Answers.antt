-- There are as many bodies as requests.
use Rattle.std.proofs.Common.{◌∙◌, List, Option, ap, length}
use Rattle.odb_check.specs.Plans.{plan_records}
use Rattle.odb_doc.specs.batch.Records.{ReadsAs}
use Rattle.odb_doc.specs.batch.Shapes.{elements}
use Rattle.odb_spans.specs.Spans.{HasBodyAt}
use Rattle.odb_spans.specs.declared.span.Span.{Span}
use Rattle.odb_send.proofs.PairLemmas.{as_many}
use Rattle.odb_send.proofs.requests.requests_of.Goals as goal

pub with_bodies-requires : goal.with_bodies-requires
with_bodies-requires c =
    let d = c.requires.0 in
    let read = c.requires.1 in
    ap (λ (bodies : List (Option Span)). length bodies) c.deref.ensures.value
    ∙ as_many ReadsAs (HasBodyAt c.args.document.now) (elements d) (plan_records c.args.plan.now) c.in_ok-bodies.bodies.items read.is (c.in_ok-bodies.ensures.bodies d read.json)
