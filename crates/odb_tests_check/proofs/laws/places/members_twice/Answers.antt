use Rattle.std.proofs.Common.{ℕ, List, Option}
use Rattle.std.specs.List.{AllZip}
use Rattle.serde_json.specs.Data.{Data}
use Rattle.serde_json.specs.View.{view}
use Rattle.odb_doc.specs.Documents.{IsJson}
use Rattle.odb_doc.specs.Members.{elements_at}
use Rattle.odb_spans.specs.Spans.{EachSpan, HasMemberAt, IsPlaceOfMember}
use Rattle.odb_spans.specs.declared.span.Span.{Span}
use Rattle.odb_testing.proofs.ReadingLemmas.{one_found}
use Rattle.odb_tests_check.proofs.laws.places.members_twice.Goals as goal

pub returns : goal.returns
returns c =
    let document = c.args.document.now in
    let list = c.args.list.now in
    let name = c.args.name.now in
    let d = view c.in-Ok._value in
    let json : IsJson document d = c.in-Ok.ensures.ok.1 in
    let Are : List (Option Span) → Type 0 = λ spans. (d : Data) → IsJson document d → AllZip (HasMemberAt name document) (elements_at list d) spans × EachSpan (IsPlaceOfMember list name document d) 0 spans in
    one_found (λ found. found.items) Are (λ x y p q. c.one_place.ensures list name document d x y json (p d json).0 (p d json).1 (q d json).0 (q d json).1) c.members_of.result c.members_of-2.result c.members_of.ensures c.members_of-2.ensures
