use Rattle.std.proofs.Common.{◌≡◌}
use Rattle.serde_json.specs.Data.{Data}
use Rattle.serde_json.specs.View.{view}
use Rattle.odb_doc.specs.Documents.{IsJson}
use Rattle.odb_spans.specs.Positions.{ArePartsOf}
use Rattle.odb_spans.specs.declared.span.Span.{Span}
use Rattle.odb_testing.proofs.ReadingLemmas.{both_found}
use Rattle.odb_tests_check.proofs.laws.places.documents_twice.Goals as goal

pub returns : goal.returns
returns c =
    let line = c.args.line.now in
    let d = view c.in-Ok._value in
    let json : IsJson line d = c.in-Ok.ensures.ok.1 in
    let Are : Span × Span → Type 0 = λ found. (d : Data) → IsJson line d → ArePartsOf line found.0 found.1 d in
    both_found Are (λ x y. (x.0 ≡ y.0) × (x.1 ≡ y.1)) (λ x y p q. c.one_pair.ensures line d x.0 x.1 y.0 y.1 json (p d json) (q d json)) c.documents_in.result c.documents_in-2.result c.documents_in.ensures.found c.documents_in-2.ensures.found
