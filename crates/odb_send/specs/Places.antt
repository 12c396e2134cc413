-- Where members of the elements of a document lie, as the bodies of a batch (OData JSON Format 4.01, sections 19.1 and 19.5).
use Rattle.std.specs.Prelude.{ℕ, List, Option, codes}
use Rattle.std.specs.List.{AllZip}
use Rattle.serde_json.specs.Data.{Data}
use Rattle.odb_doc.specs.Members.{elements_at}
use Rattle.odb_spans.specs.Spans.{EachSpan, HasMemberAt, IsPlaceOfMember}
use Rattle.odb_spans.specs.declared.span.Span.{Span}

-- The spans are where the members of this name lie in the document, one for each element of the array at the member `list`, in
-- order; an element without a span has none.
pub record AreMembers (list name document : List ℕ) (d : Data) (spans : List (Option Span)) : Type 0 where
  pub values : AllZip (HasMemberAt name document) (elements_at list d) spans
  pub places : EachSpan (IsPlaceOfMember list name document d) 0 spans

-- the spans are where the bodies of the requests lie
abbrev pub AreBodiesIn : List ℕ → Data → List (Option Span) → Type 0
AreBodiesIn document d spans = AreMembers (codes "requests") (codes "body") document d spans
