-- An element of an array has one place in a document.
use Rattle.std.proofs.Common.{◌≡◌, ◌∙◌, ℕ, zero, suc, ◌<◌, true, List, [], ◌∷◌, length, drop, Option, Some, slice_get, inl, inr, refl, sym, ap, subst, arith}
use Rattle.std.specs.Prelude.{set}
use Rattle.std.specs.List.{AllZip}
use Rattle.std.proofs.lemmas.Option.{slice_get_within}
use Rattle.json.specs.Json as json
use Rattle.json.specs.Lex.{between, lex}
use Rattle.json.specs.Find as tree
use Rattle.serde_json.specs.Data.{Data, null, boolean}
use Rattle.serde_json.specs.Read.{of_json}
use Rattle.odb_doc.specs.Documents.{IsJson}
use Rattle.odb_doc.specs.Members.{elements_at}
use Rattle.odb_spans.specs.Parts.{count_items, items_in}
use Rattle.odb_spans.specs.Positions.{ElementLiesAt, IsPlaceOfElement, IsTextAt, LiesIn}
use Rattle.odb_spans.specs.declared.span.Span.{Span}
use Rattle.odb_spans.proofs.AloneLemmas.{BeginsToken}
use Rattle.odb_spans.proofs.DataLemmas.{IsReadItem, elements-read}
use Rattle.odb_spans.proofs.FillLemmas.{last-member}
use Rattle.odb_spans.proofs.HoleLemmas.{Hole, here, in_item, in_member, fill}
use Rattle.odb_spans.proofs.LookedLemmas.{set-at}
use Rattle.odb_spans.proofs.OneSpanLemmas.{HasHole, IsFilled, IsSolidSpan, begun, has-hole, one-span}
use Rattle.odb_spans.proofs.PathLemmas.{IsLast, IsTrueValue, SameHole, array-same, in-value, is-last, item-at, listed-at, not-none, object-same, same-items, same-members}
use Rattle.odb_spans.proofs.ReadLemmas.{IsTreeOf, tree-of}

-- the item at this position of the array at the last member of this name
abbrev looked : List ℕ → ℕ → json.Json → Option json.Json
looked name at j = slice_get (items_in (tree.get name j)) at

-- ---- what is read of it

-- the value is read as this one
record IsReadAs (v : Data) (o : Option json.Json) : Type 0 where
  value : json.Json
  is : o ≡ Some value
  reads : of_json value ≡ Some v

items-read : (v : Data) (at : ℕ) (js : List json.Json) (ds : List Data) → AllZip IsReadItem js ds → slice_get ds at ≡ Some v → IsReadAs v (slice_get js at)
items-read v at [] [] reads e = absurd (cc (e))
items-read v at [] (d ∷ ds) reads e = absurd reads
items-read v at (j ∷ js) [] reads e = absurd reads
items-read v zero (j ∷ js) (d ∷ ds) reads e = record { value = j; is = refl; reads = reads.0.0 ∙ e }
items-read v (suc at) (j ∷ js) (d ∷ ds) reads e = items-read v at js ds reads.1 e

-- what was put in its place
looks : (name text : List ℕ) (d changed v : Data) (at : ℕ) (top : IsTreeOf text changed) → at < length (elements_at name d) → elements_at name changed ≡ set (elements_at name d) at v → IsReadAs v (looked name at top.tree)
looks name text d changed v at top within elements =
    items-read v at (items_in (tree.get name top.tree)) (elements_at name changed) (elements-read name top.tree changed top.shallow top.reads) (ap (λ ds. slice_get ds at) elements ∙ set-at (elements_at name d) at v within)

is-true : (o : Option json.Json) → IsReadAs (boolean true) o → IsTrueValue o
is-true o r = record { value = r.value; is = r.is; reads = r.reads }

null-differs : (o : Option json.Json) → IsReadAs null o → IsTrueValue o → ⊥
null-differs o r t =
    let same : r.value ≡ t.value = cc (sym r.is ∙ t.is) in
    let both = sym r.reads ∙ ap of_json same ∙ t.reads in
    cc (both)

-- ---- the place of the item

record IsItemHole (at : ℕ) (hole : Hole) : Type 0 where
  earlier : json.Items
  later : json.Items
  is : hole ≡ in_item earlier here later
  count : count_items earlier ≡ at

module _ (at : ℕ) where
  abbrev item_of : Option json.Json → Option json.Json
  item_of o = slice_get (items_in o) at

  in-array : (hole : Hole) → IsTrueValue (item_of (Some (fill hole (json.boolean true)))) → (IsTrueValue (item_of (Some (fill hole json.null))) → ⊥) → IsItemHole at hole
  in-array here t f = not-none t
  in-array (in_member earlier k hole later) t f = not-none t
  in-array (in_item earlier hole later) t f =
      elim (item-at earlier later at) [
        | inl count ↦ (
            let inner = in-value hole (subst IsTrueValue (listed-at at earlier (fill hole (json.boolean true)) later count) t) in
            record { earlier = earlier; later = later; is = ap (λ h. in_item earlier h later) inner.is; count = count })
        | inr same ↦ absurd (f (subst IsTrueValue (same (fill hole (json.boolean true)) (fill hole json.null)) t))
      ]

-- the place is that of the item at this position
record IsElementHole (name : List ℕ) (at : ℕ) (hole : Hole) : Type 0 where
  before_list : json.Members
  key : List ℕ
  after_list : json.Members
  before_item : json.Items
  after_item : json.Items
  is : hole ≡ in_member before_list key (in_item before_item here after_item) after_list
  outer : IsLast name key after_list
  count : count_items before_item ≡ at

is-element-hole : (name : List ℕ) (at : ℕ) (hole : Hole) → IsTrueValue (looked name at (fill hole (json.boolean true))) → (IsTrueValue (looked name at (fill hole json.null)) → ⊥) → IsElementHole name at hole
is-element-hole name at here t f = not-none t
is-element-hole name at (in_item earlier hole later) t f = not-none t
is-element-hole name at (in_member earlier k hole later) t f =
    elim (is-last name earlier k later) [
      | inl last ↦ (
          let one = last-member name earlier k (fill hole (json.boolean true)) later last.named last.rest in
          let other = last-member name earlier k (fill hole json.null) later last.named last.rest in
          let a = in-array at hole (subst (λ o. IsTrueValue (item_of at o)) one t) (λ u. f (subst (λ o. IsTrueValue (item_of at o)) (sym other) u)) in
          record {
            before_list = earlier;
            key = k;
            after_list = later;
            before_item = a.earlier;
            after_item = a.later;
            is = ap (λ h. in_member earlier k h later) a.is;
            outer = last;
            count = a.count;
          })
      | inr same ↦ absurd (f (subst (λ o. IsTrueValue (item_of at o)) (same (fill hole (json.boolean true)) (fill hole json.null)) t))
    ]

same-element : (name : List ℕ) (at : ℕ) (one other : Hole) (v w : json.Json) → IsElementHole name at one → IsElementHole name at other → fill one v ≡ fill other w → SameHole one other v w
same-element name at one other v w a b e =
    let whole = ap (λ h. fill h v) (sym a.is) ∙ e ∙ ap (λ h. fill h w) b.is in
    let top = same-members name a.before_list b.before_list a.key b.key _ _ a.after_list b.after_list a.outer b.outer (object-same _ _ whole) in
    let item = same-items a.before_item b.before_item v w a.after_item b.after_item (a.count ∙ sym b.count) (array-same _ _ top.value) in
    record {
      hole = a.is ∙ (λ i. in_member (top.earlier i) (top.key i) (in_item (item.earlier i) here (item.later i)) (top.later i)) ∙ sym b.is;
      value = item.value;
    }

-- ---- there is one

module _ (name document : List ℕ) (d e : Data) (at : ℕ) (span : Span) (within : at < length (elements_at name d)) (place : IsPlaceOfElement document d name at span) (text : IsTextAt document span e) where
  is-solid : IsSolidSpan document span
  is-solid =
      let some = text.some in
      record { order = omega (arith, some); within = text.within; first = text.first; last = place.last; cut = place.cut }

  is-filled : IsFilled document span place.with_null.changed place.with_true.changed
  is-filled = record { null_reads = place.with_null.reads; true_reads = place.with_true.reads }

  the-hole : (top : IsTreeOf document d) → HasHole document top.tree span place.with_null.changed place.with_true.changed
  the-hole top = has-hole document span _ _ e is-filled is-solid text.reads d top

  is-element : (top : IsTreeOf document d) → IsElementHole name at (the-hole top).hole
  is-element top =
      let hole = the-hole top in
      is-element-hole name at hole.hole
      (subst (λ j. IsTrueValue (looked name at j)) hole.true_is (is-true _ (looks name _ d place.with_true.changed (boolean true) at hole.true_tree within place.with_true.elements)))
      (λ t. null-differs _ (looks name _ d place.with_null.changed null at hole.null_tree within place.with_null.elements) (subst (λ j. IsTrueValue (looked name at j)) (sym hole.null_is) t))

  begins-token : BeginsToken (lex between (drop span.start document))
  begins-token = begun document span _ _ e is-filled is-solid text.reads

-- the element at a position lies at one span
pub one-element : (name document : List ℕ) (d e : Data) (at : ℕ) (one other : Span) → IsJson document d → slice_get (elements_at name d) at ≡ Some e → LiesIn document one name at d → LiesIn document other name at d → one ≡ other
one-element name document d e at one other json there x y =
    let top = tree-of document d json.1 in
    let within = slice_get_within (elements_at name d) at e there in
    let p = subst (ElementLiesAt document one name at d) there x in
    let q = subst (ElementLiesAt document other name at d) there y in
    let a = the-hole name document d e at one within p.1 p.0 top in
    let b = the-hole name document d e at other within q.1 q.0 top in
    let same = same-element name at a.hole b.hole a.value b.value (is-element name document d e at one within p.1 p.0 top) (is-element name document d e at other within q.1 q.0 top) (sym a.is ∙ b.is) in
    one-span document top.tree one other (is-solid name document d e at one within p.1 p.0) (is-solid name document d e at other within q.1 q.0) _ _ _ _ a b same (begins-token name document d e at one within p.1 p.0) (begins-token name document d e at other within q.1 q.0)
