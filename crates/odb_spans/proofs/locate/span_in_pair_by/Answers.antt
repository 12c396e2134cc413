-- A line that is not JSON holds nothing.
use Rattle.std.proofs.Common.{length, Some, IfSome, subst}
use Rattle.serde_json.specs.Data.{Data}
use Rattle.odb_doc.specs.Documents.{IsJson}
use Rattle.odb_spans.specs.Positions.{LiesInPair, pair}
use Rattle.odb_spans.specs.Spans.{IsWithin}
use Rattle.odb_spans.proofs.PartLemmas.{if-ok}
use Rattle.odb_spans.proofs.locate.span_in_pair_by.Goals as goal

pub returns-in-Some-clause-lies : goal.returns-in-Some-clause-lies
returns-in-Some-clause-lies c =
    let line = c.args.line.now in
    let none = subst (λ error. IfSome error (λ _. (d : Data) → ¬ IsJson line d)) c.in-Some.is c.requires in
    if-ok (λ span. IsWithin (length line) (Some span)) (λ span. LiesInPair line span c.args.place) c.error_span.result
    (λ span within. record { pairs = λ batch second is. absurd (none (pair batch second) is); others = λ d is other. absurd (none d is) })
    c.error_span.ensures.within
