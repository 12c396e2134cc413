use Rattle.serde_json.specs.View.{view}
use Rattle.odb_doc.specs.Documents.{IsJson}
use Rattle.odb_spans.specs.Positions.{BeginAlike, StandsInPair}
use Rattle.odb_testing.proofs.ReadingLemmas.{both_found}
use Rattle.odb_tests_check.proofs.laws.places.line_position_twice.Goals as goal

pub returns : goal.returns
returns c =
    let line = c.args.line.now in
    let place = c.args.place in
    let d = view c.in-Ok._value in
    let json : IsJson line d = c.in-Ok.ensures.ok.1 in
    both_found (StandsInPair line place) BeginAlike (λ x y. c.one_position.ensures.line line d place x y json) c.position_in_line.result c.position_in_line-2.result c.position_in_line.ensures c.position_in_line-2.ensures
