-- What a place names is at one position of a document that is JSON, and of a line that is.
use Rattle.std.proofs.Common.{◌≡◌, ◌∙◌, ℕ, ◌-◌, Bool, true, false, cond, codes, List, slice_get, Option, Some, None, ◌⊎◌, inl, inr, refl, sym, ap, subst, arith}
use Rattle.std.proofs.lemmas.Bool.{true≢false}
use Rattle.serde_json.specs.Data.{Data, null, boolean, number, string, array, object, no_items, item}
use Rattle.odb_doc.specs.Documents.{IsJson}
use Rattle.odb_doc.specs.Members.{elements_at}
use Rattle.odb_doc.specs.declared.fault.Place.{Place}
use Rattle.odb_doc.specs.declared.fault.Place.TheVariants.{Batch, Request, Outcomes, Outcome, Responses, Response, Events, Event}
use Rattle.odb_spans.specs.Positions.{BeginAlike, ElementLiesAt, IsPosition, IsTextAt, IsWhole, LiesIn, LiesInPair, LiesInPairOf, LiesInPart, Stands, StandsInPair, ValueLiesAt, is_in_batch, pair, span_of}
use Rattle.odb_spans.specs.Spans.{bytes_of}
use Rattle.odb_spans.specs.declared.position.Position.{Position}
use Rattle.odb_spans.specs.declared.span.Span.{Span}
use Rattle.odb_spans.proofs.OneElementLemmas.{one-element}
use Rattle.odb_spans.proofs.OnePairLemmas.{one-pair}
use Rattle.odb_spans.proofs.OneSpanLemmas.{eq_of_not-lt}

-- ---- a document

-- its value begins at one offset
one-start : (document : List ℕ) (one other : Span) (d e : Data) → IsWhole document one d → IsWhole document other e → one.start ≡ other.start
one-start document one other d e p q = eq_of_not-lt one.start other.start (λ less. true≢false (sym (q.blanks one.start less) ∙ p.text.first)) (λ less. true≢false (sym (p.blanks other.start less) ∙ q.text.first))

module _ (document : List ℕ) (d : Data) (json : IsJson document d) (one other : Span) where
  one-some : (name : List ℕ) (at : ℕ) (o : Option Data) → slice_get (elements_at name d) at ≡ o → LiesIn document one name at d → LiesIn document other name at d → one.start ≡ other.start
  one-some name at None is p q = one-start document one other d d (subst (ElementLiesAt document one name at d) is p) (subst (ElementLiesAt document other name at d) is q)
  one-some name at (Some e) is p q = ap (λ (span : Span). span.start) (one-element name document d e at one other json is p q)

  one-in : (name : List ℕ) (at : ℕ) → LiesIn document one name at d → LiesIn document other name at d → one.start ≡ other.start
  one-in name at p q = one-some name at (slice_get (elements_at name d) at) refl p q

  -- what a place names begins at one offset
  one-offset : (place : Place) → ValueLiesAt document one d place → ValueLiesAt document other d place → one.start ≡ other.start
  one-offset Batch p q = one-start document one other d d p q
  one-offset (Request at) p q = one-in (codes "requests") at p q
  one-offset Outcomes p q = one-start document one other d d p q
  one-offset (Outcome at) p q = one-in (codes "outcomes") at p q
  one-offset Responses p q = one-start document one other d d p q
  one-offset (Response at) p q = one-in (codes "responses") at p q
  one-offset Events p q = one-start document one other d d p q
  one-offset (Event at) p q = one-in (codes "events") at p q

-- an offset is in one line, at one column
counted : (document : List ℕ) (one other : Position) → IsPosition document one → IsPosition document other → one.offset ≡ other.offset → BeginAlike one other
counted document one other p q same = record { line = cc (p.line, q.line, same); column = cc (p.column, q.column, same); offset = same }

pub one-position : (document : List ℕ) (d : Data) (place : Place) (one other : Position) → IsJson document d → Stands document place one → Stands document place other → BeginAlike one other
one-position document d place one other json p q = counted document one other p.counts q.counts (one-offset document d json (span_of one) (span_of other) place (p.lies d json) (q.lies d json))

-- ---- two documents in a line

-- the value is a pair, or not
record IsPair (d : Data) : Type 0 where
  batch : Data
  second : Data
  is : d ≡ pair batch second

is-pair : (d : Data) → IsPair d ⊎ ((batch second : Data) → ¬ (d ≡ pair batch second))
is-pair null = inr (λ batch second e. cc (e))
is-pair (boolean b) = inr (λ batch second e. cc (e))
is-pair (number n) = inr (λ batch second e. cc (e))
is-pair (string s) = inr (λ batch second e. cc (e))
is-pair (object ms) = inr (λ batch second e. cc (e))
is-pair (array no_items) = inr (λ batch second e. cc (e))
is-pair (array (item one no_items)) = inr (λ batch second e. cc (e))
is-pair (array (item one (item two no_items))) = inl (record { batch = one; second = two; is = refl })
is-pair (array (item one (item two (item three more)))) = inr (λ batch second e. cc (e))

module _ (line : List ℕ) (place : Place) (one other : Span) where
  -- in one of the documents
  one-in-part : (part : Span) (d : Data) → IsTextAt line part d → LiesInPart line part one d place → LiesInPart line part other d place → one.start ≡ other.start
  one-in-part part d text p q =
      let same = one-offset (bytes_of line part) d text.reads (record { start = one.start - part.start; end = one.end - part.start }) (record { start = other.start - part.start; end = other.end - part.start }) place p.lies q.lies in
      let first = p.after in
      let more = q.after in
      omega (arith, same, first, more)

  abbrev InParts : Bool → Span → Span → Data → Data → Span → Type 0
  InParts first one_part other_part batch second span = cond first (LiesInPart line one_part span batch place) (LiesInPart line other_part span second place)

  in-parts : (b : Bool) (first second : Span) (batch value : Data) → IsTextAt line first batch → IsTextAt line second value → InParts b first second batch value one → InParts b first second batch value other → one.start ≡ other.start
  in-parts true first second batch value text more p q = one-in-part first batch text p q
  in-parts false first second batch value text more p q = one-in-part second value more p q

  in-pair : (d : Data) → IsJson line d → LiesInPairOf line one place d → LiesInPairOf line other place d → one.start ≡ other.start
  in-pair d json p q =
      let same = one-pair line d p.first p.other q.first q.other json p.parts q.parts in
      let values : pair q.parts.batch q.parts.second ≡ pair p.parts.batch p.parts.second = sym q.parts.is ∙ p.parts.is in
      let batch : q.parts.batch ≡ p.parts.batch = cc (values) in
      let second : q.parts.second ≡ p.parts.second = cc (values) in
      in-parts (is_in_batch place) p.first p.other p.parts.batch p.parts.second p.parts.first_place.text p.parts.other_place.text p.lies
      (subst (λ v. InParts (is_in_batch place) p.first p.other p.parts.batch v other) second
      (subst (λ v. InParts (is_in_batch place) p.first p.other v q.parts.second other) batch
      (subst (λ s. InParts (is_in_batch place) p.first s q.parts.batch q.parts.second other) (sym same.1)
      (subst (λ s. InParts (is_in_batch place) s q.other q.parts.batch q.parts.second other) (sym same.0) q.lies))))

  in-line : (d : Data) → IsJson line d → LiesInPair line one place → LiesInPair line other place → one.start ≡ other.start
  in-line d json p q = elim (is-pair d) [
    | inl found ↦ (
        let as_pair = subst (IsJson line) found.is json in
        in-pair (pair found.batch found.second) as_pair (p.pairs found.batch found.second as_pair) (q.pairs found.batch found.second as_pair))
    | inr none ↦ one-start line one other d d (p.others d json none) (q.others d json none)
  ]

pub one-position-in-pair : (line : List ℕ) (d : Data) (place : Place) (one other : Position) → IsJson line d → StandsInPair line place one → StandsInPair line place other → BeginAlike one other
one-position-in-pair line d place one other json p q = counted line one other p.counts q.counts (in-line line place (span_of one) (span_of other) d json p.lies q.lies)
