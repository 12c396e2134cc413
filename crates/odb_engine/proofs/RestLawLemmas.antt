-- What a rest, and a full plan, writes of the bytes of a batch is one text.
use Rattle.std.proofs.Common.{◌≡◌, ◌∙◌, ◌++◌, ◌∷◌, ℕ, Bool, List, [], Option, IsSome, is_some, inl, inr, codes, sym, ap, subst}
use Rattle.std.specs.List.{AllZip}
use Rattle.std.proofs.lemmas.Option.{same_Some}
use Rattle.serde_json.specs.Data.{Data}
use Rattle.odb_doc.specs.Documents.{IsJson}
use Rattle.odb_doc.specs.Members.{elements_at}
use Rattle.odb_doc.specs.Refusals.{Printed}
use Rattle.odb_doc.specs.batch.Records.{Record}
use Rattle.odb_check.specs.Texts.{newline}
use Rattle.odb_sched.specs.declared.policy.Mode.{Mode}
use Rattle.odb_spans.specs.Spans.{EachSpan, HasMemberAt, IsPlaceOfMember}
use Rattle.odb_spans.specs.declared.span.Span.{Span}
use Rattle.odb_send.specs.Faults.{RefusesRest, RestFault, rest_row}
use Rattle.odb_send.specs.Answers.{Answer, recorded}
use Rattle.odb_send.specs.Parts.{IsBatchIn}
use Rattle.odb_send.specs.Rests.{IsRestOf, kept}
use Rattle.odb_send.specs.Texts.{IsTextOf}
use Rattle.odb_send.specs.Units.{IsInRest}
use Rattle.odb_send.specs.declared.rest.Rest.{Rest}
use Rattle.odb_send.proofs.MarkLemmas.{one_marks}
use Rattle.odb_text.specs.FullPlans.{full_plan_value}
use Rattle.odb_text.specs.Results.{json_line}
use Rattle.odb_engine.specs.Cascade.{IsOne}
use Rattle.odb_engine.specs.Forms.{fault_text}
use Rattle.odb_engine.specs.FullPlans.{ShowsPlaces}
use Rattle.odb_engine.specs.Rests.{LacksHeaders, PrintsRest, RestsValue, WritesRest}
use Rattle.odb_engine.specs.declared.ending.Ended.{Ended}
use Rattle.odb_engine.specs.declared.form.Form.{Form}
use Rattle.odb_engine.proofs.MatchLawLemmas.{AreOneMatch, responses_one}

-- the laws of odb_spans and of odb_send on their own relations
pub record AreOneRest : Type 0 where
  pub one_place : (list name document : List ℕ) (d : Data) (spans others : List (Option Span)) → IsJson document d → AllZip (HasMemberAt name document) (elements_at list d) spans → EachSpan (IsPlaceOfMember list name document d) 0 spans
      → AllZip (HasMemberAt name document) (elements_at list d) others → EachSpan (IsPlaceOfMember list name document d) 0 others → spans ≡ others
  pub one_text : (document : List ℕ) (d : Data) (batch : List Record) (statuses : List ℕ) (answers : ℕ → Answer) (rest other : Rest) (text different : List ℕ) → IsJson document d → IsRestOf batch statuses answers rest → IsRestOf batch statuses answers other
      → IsTextOf document d batch rest text → IsTextOf document d batch other different → text ≡ different
  pub one_fault : (batch : List Record) (units : List Bool) (answers : ℕ → Answer) (fault other : RestFault) → IsSome (rest_row fault) → IsSome (rest_row other) → RefusesRest fault batch units answers → RefusesRest other batch units answers → fault ≡ other
  pub no_fault : (batch : List Record) (statuses : List ℕ) (answers : ℕ → Answer) (rest : Rest) (fault : RestFault) → IsSome (rest_row fault) → RefusesRest fault batch (kept rest) answers → ¬ IsRestOf batch statuses answers rest

-- ---- a full plan

pub places_one : AreOneRest → (document : List ℕ) (d : Data) (batch : List Record) (form : Form) → IsJson document d → IsOne (ShowsPlaces document batch form)
places_one law document d batch form json a b s t x y =
    let one = x.places d json in
    let two = y.places d json in
    let bodies = law.one_place (codes "requests") (codes "body") document d x.bodies y.bodies json one.values one.places two.values two.places in
    (x.prints.0 ∙ sym y.prints.0, x.prints.1 ∙ ap (λ spans. json_line (full_plan_value batch spans)) bodies ∙ sym y.prints.1)

-- ---- a rest

module _ (law : AreOneRest) (document : List ℕ) (d : Data) (batch : List Record) (is : IsBatchIn document d batch) (value : Data) where
  lacks-one : (places statuses : List ℕ) (s t : Printed) → LacksHeaders batch value places statuses s → LacksHeaders batch value places statuses t → s ≡ t
  lacks-one places statuses s t x y =
      let units = one_marks batch (IsInRest batch statuses) x.units y.units x.marks y.marks in
      let first = subst (λ (us : List Bool). RefusesRest x.fault batch us (recorded value places statuses)) units x.least in
      same_Some s t (sym x.is ∙ ap rest_row (law.one_fault batch y.units (recorded value places statuses) x.fault y.fault (ap is_some x.is) (ap is_some y.is) first y.least) ∙ y.is)

  lacks-none : (places statuses : List ℕ) (refusal : Printed) (ended : Ended) (text : List ℕ) → LacksHeaders batch value places statuses refusal → PrintsRest document batch value places statuses ended text → ⊥
  lacks-none places statuses refusal ended text x y =
      let units = one_marks batch (IsInRest batch statuses) x.units (kept y.rest) x.marks y.rest_is.units in
      law.no_fault batch statuses (recorded value places statuses) y.rest x.fault (ap is_some x.is) (subst (λ (us : List Bool). RefusesRest x.fault batch us (recorded value places statuses)) units x.least) y.rest_is

  rest-one : (places statuses : List ℕ) (form : Form) → IsOne (WritesRest document batch value places statuses form)
  rest-one places statuses form a b s t (inl x) (inl y) = (x.ends ∙ sym y.ends, x.prints ∙ ap (fault_text form) (lacks-one places statuses x.refusal y.refusal x.is y.is) ∙ sym y.prints)
  rest-one places statuses form a b s t (inl x) (inr y) = absurd (lacks-none places statuses x.refusal b t x.is y)
  rest-one places statuses form a b s t (inr x) (inl y) = absurd (lacks-none places statuses y.refusal a s y.is x)
  rest-one places statuses form a b s t (inr x) (inr y) =
      let line = law.one_text document d batch statuses (recorded value places statuses) x.rest y.rest x.line y.line is.json x.rest_is y.rest_is (x.line_is d is) (y.line_is d is) in
      (x.ends ∙ sym y.ends, x.prints ∙ ap (λ l. l ++ newline ∷ []) line ∙ sym y.prints)

  pub rests_value_one : AreOneMatch → (mode : Mode) (form : Form) → IsOne (RestsValue mode document batch value form)
  rests_value_one matching mode form = responses_one matching (WritesRest document batch value) mode batch rest-one value form
