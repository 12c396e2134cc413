use Rattle.std.proofs.Common.{◌≡◌, codes}
use Rattle.odb_doc.specs.declared.fault.Place.TheVariants.{Request}
use Rattle.odb_spans.specs.Positions.{Stands, span_of}
use Rattle.odb_testing.proofs.ReadingLemmas.{both_found}
use Rattle.odb_tests_check.proofs.laws.places.request_twice.Goals as goal

pub returns : goal.returns
returns c =
    let document = c.args.document.now in
    let at = c.args.at in
    let (d, element, json, is) = c.requires in
    both_found (Stands document (Request at)) (λ x y. span_of x ≡ span_of y) (λ x y p q. c.one_element.ensures (codes "requests") document d element at (span_of x) (span_of y) json is (p.lies d json) (q.lies d json)) c.position_in.result c.position_in-2.result c.position_in.ensures c.position_in-2.ensures
