use Rattle.serde_json.specs.View.{view}
use Rattle.odb_doc.specs.Documents.{IsJson}
use Rattle.odb_spans.specs.Positions.{BeginAlike, Stands}
use Rattle.odb_testing.proofs.ReadingLemmas.{both_found}
use Rattle.odb_tests_check.proofs.laws.places.position_twice.Goals as goal

pub returns : goal.returns
returns c =
    let document = c.args.document.now in
    let place = c.args.place in
    let d = view c.in-Ok._value in
    let json : IsJson document d = c.in-Ok.ensures.ok.1 in
    both_found (Stands document place) BeginAlike (λ x y. c.one_position.ensures.document document d place x y json) c.position_in.result c.position_in-2.result c.position_in.ensures c.position_in-2.ensures
