-- The value of a whole document, and where its elements lie.
use Rattle.std.proofs.Common.{◌≡◌, ◌∙◌, ℕ, zero, suc, ◌+◌, ◌-◌, ◌≤◌, List, [], ◌∷◌, length, drop, get_or, slice_get, Option, Some, None, ◌⊎◌, inl, inr, refl, sym, ap, subst, arith}
use Rattle.std.specs.Prelude.{IsUtf8}
use Rattle.std.specs.Str.{IsCharBoundary}
use Rattle.std.specs.List.{AllZip}
use Rattle.std.proofs.lemmas.List.{length-take}
use Rattle.json.specs.Json as json
use Rattle.json.specs.Lex.{fresh, punctuate}
use Rattle.json.specs.Tree.{depth}
use Rattle.serde_json.specs.Data.{Data}
use Rattle.serde_json.specs.Read.{max_depth, of_json}
use Rattle.odb_doc.specs.Documents.{IsJson}
use Rattle.odb_doc.specs.declared.fault.Place.{Place}
use Rattle.odb_doc.specs.declared.fault.Place.TheVariants.{Batch, Outcomes, Responses, Events}
use Rattle.odb_spans.specs.Parts.{HasValue, IsTextOf, IsValueSpan}
use Rattle.odb_spans.specs.Extents.{value_extent}
use Rattle.odb_spans.specs.Positions.{ElementLiesAt, IsPlaceOfElement, IsTextAt, IsWhole, ValueLiesAt}
use Rattle.odb_spans.specs.Spans.{bytes_of}
use Rattle.odb_spans.specs.Walks.{IsStart}
use Rattle.odb_spans.specs.declared.span.Span.{Span}
use Rattle.odb_spans.proofs.DataLemmas.{IsReadItem}
use Rattle.odb_spans.proofs.EndLemmas.{solid-byte}
use Rattle.odb_spans.proofs.PartLemmas.{begins-with-token, not-past, value-part}
use Rattle.odb_spans.proofs.ReadLemmas.{IsTreeOf, read-tokens, tree-of}

-- the value of a document that is JSON begins where it starts
pub whole : (text : List ℕ) (start : ℕ) (d : Data) (is : IsTreeOf text d) → IsUtf8 text → IsStart text start → HasValue text start is.tree []
whole text start d is utf8 at = record { place = fresh; begin = refl; spelled = ap (punctuate fresh) at.same ∙ is.spelled; solid = at.solid; utf8 = utf8; boundary = at.boundary utf8; cut = at.cut }

-- the text of a value of the tree is that of what is read of it
pub text-at : (text : List ℕ) (span : Span) (j : json.Json) (d : Data) → IsTextOf text span j → of_json j ≡ Some d → depth j ≤ max_depth → IsTextAt text span d
text-at text span j d is reads shallow =
    let b = begins-with-token j in
    let some = not-past (bytes_of text span) 0 fresh b.first b.others b.good (is.spelled ∙ b.is) in
    record {
      some = omega (arith, some, length-take (span.end - span.start) (drop span.start text));
      within = is.within;
      reads = (is.utf8, read-tokens _ j is.spelled shallow ∙ reads);
      first = solid-byte (get_or text span.start 0) (is.solid is.some);
    }

-- it lies from there to where its brackets close
pub whole-lies : (text : List ℕ) (start end : ℕ) (d : Data) → IsJson text d → IsStart text start → end ≡ start + value_extent (drop start text) → end ≤ length text → (IsUtf8 text → IsCharBoundary text end) → IsWhole text (record { start = start; end = end }) d
whole-lies text start end d is at extent within boundary =
    let top = tree-of text d is.1 in
    let part = value-part text start end top.tree [] (whole text start d top is.0 at) extent within (boundary is.0) in
    record { text = text-at text (record { start = start; end = end }) top.tree d part.text_of top.reads top.shallow; blanks = at.blanks }

-- ---- an element

abbrev pub IsElementAt : List ℕ → Option Span → Option Data → Type 0
IsElementAt text None o = o ≡ None
IsElementAt text (Some span) o = (d : Data) × (o ≡ Some d) × IsTextAt text span d

pub element-at : (text : List ℕ) (js : List json.Json) (ds : List Data) (position : ℕ) (span : Option Span) → AllZip IsReadItem js ds → IsValueSpan text span (slice_get js position) → IsElementAt text span (slice_get ds position)
element-at text [] [] position None reads is = refl
element-at text [] [] position (Some s) reads is = absurd (cc (is.1))
element-at text [] (d ∷ ds) position span reads is = absurd reads
element-at text (j ∷ js) [] position span reads is = absurd reads
element-at text (j ∷ js) (d ∷ ds) zero None reads is = absurd (cc (is))
element-at text (j ∷ js) (d ∷ ds) zero (Some s) reads is =
    let same : is.0 ≡ j = cc (is.1) in
    (d, refl, text-at text s j d (subst (IsTextOf text s) same is.2) reads.0.0 (omega (arith, reads.0.1)))
element-at text (j ∷ js) (d ∷ ds) (suc position) span reads is = element-at text js ds position span reads.1 is

-- the element lies where it was found
pub element-lies : (text : List ℕ) (span : Span) (found : Option Span) (name : List ℕ) (position : ℕ) (d : Data) (o : Option Data) → found ≡ Some span → IsElementAt text found o → IsPlaceOfElement text d name position span → ElementLiesAt text span name position d o
element-lies text span None name position d o same is place = absurd (cc (same))
element-lies text span (Some s) name position d None same is place = absurd (cc (is.1))
element-lies text span (Some s) name position d (Some e) same is place =
    let one : s ≡ span = cc (same) in
    let here : is.0 ≡ e = cc (is.1) in
    (subst (IsTextAt text span) here (subst (λ x. IsTextAt text x is.0) one is.2), place)

-- the whole value lies where there is no element
pub no-element-lies : (text : List ℕ) (span : Span) (found : Option Span) (name : List ℕ) (position : ℕ) (d : Data) (o : Option Data) → found ≡ None → IsElementAt text found o → IsWhole text span d → ElementLiesAt text span name position d o
no-element-lies text span None name position d o same is lies = subst (ElementLiesAt text span name position d) (sym is) lies
no-element-lies text span (Some s) name position d o same is lies = absurd (cc (same))

-- a place that names no element names the whole value
pub whole-place : (text : List ℕ) (span : Span) (place : Place) (d : Data) → (place ≡ Batch) ⊎ ((place ≡ Outcomes) ⊎ ((place ≡ Responses) ⊎ (place ≡ Events))) → IsWhole text span d → ValueLiesAt text span d place
whole-place text span place d is lies = elim is [
  | inl e ↦ subst (ValueLiesAt text span d) (sym e) lies
  | inr (inl e) ↦ subst (ValueLiesAt text span d) (sym e) lies
  | inr (inr (inl e)) ↦ subst (ValueLiesAt text span d) (sym e) lies
  | inr (inr (inr e)) ↦ subst (ValueLiesAt text span d) (sym e) lies
]
