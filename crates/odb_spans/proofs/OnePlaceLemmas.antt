-- A member of an element has one place in a document.
use Rattle.std.proofs.Common.{◌≡◌, ◌∙◌, ℕ, suc, ◌+◌, ◌<◌, List, [], ◌∷◌, length, drop, Option, Some, None, refl, sym, ap, ap₂, subst, arith}
use Rattle.std.proofs.lemmas.List.{length-map}
use Rattle.std.specs.List.{AllZip}
use Rattle.json.specs.Lex.{between, lex}
use Rattle.serde_json.specs.Data.{Data}
use Rattle.odb_doc.specs.Documents.{IsJson}
use Rattle.odb_doc.specs.Members.{elements_at}
use Rattle.odb_spans.specs.Spans.{EachSpan, HasMemberAt, IsPlaceOfMember, IsSpanOf, member_of, members_of}
use Rattle.odb_spans.specs.declared.span.Span.{Span}
use Rattle.odb_spans.proofs.AloneLemmas.{BeginsToken}
use Rattle.odb_spans.proofs.LookedLemmas.{looks-other, looks-true}
use Rattle.odb_spans.proofs.OneSpanLemmas.{HasHole, IsFilled, IsSolidSpan, begun, has-hole, one-span}
use Rattle.odb_spans.proofs.PathLemmas.{IsMemberHole, IsTrueValue, is-member-hole, looked, same-hole}
use Rattle.odb_spans.proofs.ReadLemmas.{IsTreeOf, tree-of}

module _ (list name document : List ℕ) (d : Data) (at : ℕ) (span : Span) (v : Data) (within : at < length (members_of list name d)) (place : IsPlaceOfMember list name document d at span) (text : IsSpanOf document span v) where
  is-solid : IsSolidSpan document span
  is-solid = record { order = text.order; within = text.within; first = place.first; last = place.last; cut = place.cut }

  is-filled : IsFilled document span place.with_null.changed place.with_true.changed
  is-filled = record { null_reads = place.with_null.reads; true_reads = place.with_true.reads }

  the-hole : (top : IsTreeOf document d) → HasHole document top.tree span place.with_null.changed place.with_true.changed
  the-hole top = has-hole document span _ _ v is-filled is-solid text.reads d top

  is-member : (top : IsTreeOf document d) → IsMemberHole list name at (the-hole top).hole
  is-member top =
      let hole = the-hole top in
      is-member-hole list name at hole.hole
      (subst (λ j. IsTrueValue (looked list name at j)) hole.true_is (looks-true list name _ d place.with_true.changed at hole.true_tree within place.with_true.members))
      (λ t. looks-other list name _ d place.with_null.changed at hole.null_tree within place.with_null.members (subst (λ j. IsTrueValue (looked list name at j)) (sym hole.null_is) t))

  begins-token : BeginsToken (lex between (drop span.start document))
  begins-token = begun document span _ _ v is-filled is-solid text.reads

module _ (list name document : List ℕ) (d : Data) (json : IsJson document d) (at : ℕ) (within : at < length (members_of list name d)) (one other : Span) (v w : Data) (p : IsPlaceOfMember list name document d at one) (q : IsPlaceOfMember list name document d at other)
    (text : IsSpanOf document one v) (more : IsSpanOf document other w) where
  top : IsTreeOf document d
  top = tree-of document d json.1

  one-place : one ≡ other
  one-place =
      let a = the-hole list name document d at one v within p text top in
      let b = the-hole list name document d at other w within q more top in
      let same = same-hole list name at a.hole b.hole a.value b.value (is-member list name document d at one v within p text top) (is-member list name document d at other w within q more top) (sym a.is ∙ b.is) in
      one-span document top.tree one other (is-solid list name document d at one v within p text) (is-solid list name document d at other w within q more) _ _ _ _ a b same (begins-token list name document d at one v within p text) (begins-token list name document d at other w within q more)

module _ (list name document : List ℕ) (d : Data) (json : IsJson document d) where
  abbrev IsPlace : ℕ → Span → Type 0
  IsPlace at span = IsPlaceOfMember list name document d at span

  same-list : (from : ℕ) (elements : List Data) (spans others : List (Option Span)) → AllZip (HasMemberAt name document) elements spans → EachSpan IsPlace from spans → AllZip (HasMemberAt name document) elements others → EachSpan IsPlace from others
      → from + length elements ≡ length (members_of list name d) → spans ≡ others
  same-list from [] [] [] have places had more count = refl
  same-list from [] [] (t ∷ others) have places had more count = absurd had
  same-list from [] (s ∷ spans) others have places had more count = absurd have
  same-list from (e ∷ elements) [] others have places had more count = absurd have
  same-list from (e ∷ elements) (s ∷ spans) [] have places had more count = absurd had
  same-list from (e ∷ elements) (None ∷ spans) (None ∷ others) have places had more count =
      ap (λ l. None ∷ l) (same-list (suc from) elements spans others have.1 places had.1 more (omega (arith, count)))
  same-list from (e ∷ elements) (None ∷ spans) (Some t ∷ others) have places had more count = absurd (cc (sym have.0 ∙ had.0.1))
  same-list from (e ∷ elements) (Some s ∷ spans) (None ∷ others) have places had more count = absurd (cc (sym had.0 ∙ have.0.1))
  same-list from (e ∷ elements) (Some s ∷ spans) (Some t ∷ others) have places had more count =
      ap₂ (λ o l. Some o ∷ l) (one-place list name document d json from (omega (arith, count)) s t have.0.0 had.0.0 places.0 more.0 have.0.2 had.0.2)
      (same-list (suc from) elements spans others have.1 places.1 had.1 more.1 (omega (arith, count)))

  -- the members of a name have one list of places
  pub one-list : (spans others : List (Option Span)) → AllZip (HasMemberAt name document) (elements_at list d) spans → EachSpan IsPlace 0 spans → AllZip (HasMemberAt name document) (elements_at list d) others → EachSpan IsPlace 0 others → spans ≡ others
  one-list spans others have places had more =
      let count = length-map (elements_at list d) (member_of name) in same-list 0 (elements_at list d) spans others have places had more (omega (arith, count))
