-- Two texts that the cascade allows for the same bytes are equal, if P allows one for each batch.
use Rattle.std.proofs.lemmas.Bool.{false≢true}
use Rattle.std.proofs.lemmas.Option.{same_Some}
use Rattle.std.proofs.Common.{◌≡◌, ℕ, ◌≤◌, ◌<◌, ◌∙◌, List, Option, Some, None, IsSome, is_some, option_map, length, inl, inr, refl, sym, subst, ap, arith}
use Rattle.serde_json.specs.Data.{Data}
use Rattle.odb_doc.specs.declared.fault.Place.{Place}
use Rattle.odb_doc.specs.declared.fault.Place.TheVariants.{Batch}
use Rattle.odb_doc.specs.declared.fault.DocFault.{DocFault}
use Rattle.odb_doc.specs.declared.fault.DocFault.TheVariants as faults
use Rattle.odb_doc.specs.declared.fault.DocumentRule.TheVariants as rules
use Rattle.odb_doc.specs.Documents.{most_bytes, IsDocument, RefusesDocument}
use Rattle.odb_doc.specs.Faults.{document_row}
use Rattle.odb_doc.specs.batch.LeastFault.{IsWellShaped, IsLeastFault}
use Rattle.odb_doc.specs.batch.Records.{Record, IsBatchOf}
use Rattle.odb_check.specs.FaultTable.{CheckFault, check_row}
use Rattle.odb_check.specs.LeastNameFault.{HasGoodNames, RefusesNames}
use Rattle.odb_send.specs.Parts.{IsBatchIn}
use Rattle.odb_engine.specs.declared.ending.Ended.{Ended}
use Rattle.odb_engine.specs.declared.form.Form.{Form}
use Rattle.odb_engine.specs.Forms.{fault_text}
use Rattle.odb_engine.specs.Cascade.{IsOne, WritesIn, RefusesBytes, Accepts, AcceptsValue, Answers, AnswersValue, HasValue, IsLeastOfBatch, OfDocument, at_place}
use Rattle.odb_doc.specs.Refusals.{Printed}
use Rattle.odb_engine.proofs.MemoryLemmas.{one_value}

-- the laws of the lower crates on their own relations
pub record AreFunctional : Type 0 where
  pub one_shape : (value : Data) (fault other : DocFault) → IsSome (document_row fault) → IsSome (document_row other) → IsLeastFault fault value → IsLeastFault other value → fault ≡ other
  pub no_shape : (value : Data) (fault : DocFault) → IsSome (document_row fault) → IsLeastFault fault value → ¬ IsWellShaped value
  pub one_batch : (value : Data) (batch other : List Record) → IsBatchOf value batch → IsBatchOf value other → batch ≡ other
  pub one_name : (requests : List Record) (fault other : CheckFault) → IsSome (check_row fault) → IsSome (check_row other) → RefusesNames fault requests → RefusesNames other requests
      → fault ≡ other
  pub no_name : (requests : List Record) (fault : CheckFault) → IsSome (check_row fault) → RefusesNames fault requests → ¬ HasGoodNames requests

-- ---- bytes that are refused

-- they are too long, or they are not JSON
data Cause (bytes : List ℕ) : DocFault → Type 0 where
  Long : most_bytes < length bytes → Cause bytes (faults.Document rules.TooLong)
  NoJson : length bytes ≤ most_bytes → ((d : Data) → ¬ IsDocument bytes d) → Cause bytes (faults.Document rules.NotJson)

cause : (bytes : List ℕ) (fault : DocFault) → IsSome (document_row fault) → RefusesDocument fault bytes → Cause bytes fault
cause bytes (faults.Document rules.TooLong) numbered long = Long long
cause bytes (faults.Document rules.NotJson) numbered refused = NoJson refused.0 (λ d is. refused.1 d is.1)
cause bytes (faults.Document rules.NotObject) numbered none = absurd none
cause bytes (faults.Document rules.NoRequests) numbered none = absurd none
cause bytes (faults.Document rules.UnknownMember) numbered none = absurd none
cause bytes (faults.Document rules.TooMany) numbered none = absurd none
cause bytes (faults.Request at rule) numbered none = absurd none
cause bytes faults.OutOfMemory numbered none = absurd (false≢true numbered)

one_cause : (bytes : List ℕ) (fault other : DocFault) → Cause bytes fault → Cause bytes other → fault ≡ other
one_cause bytes _ _ (Long a) (Long b) = refl
one_cause bytes _ _ (Long a) (NoJson b none) = absurd (omega (arith, a, b))
one_cause bytes _ _ (NoJson a none) (Long b) = absurd (omega (arith, a, b))
one_cause bytes _ _ (NoJson a none) (NoJson b none') = refl

no_value : (bytes : List ℕ) (fault : DocFault) (d : Data) → Cause bytes fault → ¬ IsDocument bytes d
no_value bytes _ d (Long long) is = omega (arith, long, is.0)
no_value bytes _ d (NoJson short none) is = none d is

some-mapped : {X Y : Type 0} (f : X → Y) (o : Option X) (y : Y) → option_map f o ≡ Some y → IsSome o
some-mapped f None y is = absurd (cc (is))
some-mapped f (Some x) y is = refl

bytes_cause : (place : Place) (bytes : List ℕ) (refusal : Printed) → (refused : RefusesBytes place bytes refusal) → Cause bytes refused.fault
bytes_cause place bytes refusal refused = cause bytes refused.fault (some-mapped (at_place place) (document_row refused.fault) refusal refused.is) refused.refuses

pub one_refusal : (place : Place) (bytes : List ℕ) (refusal other : Printed) → RefusesBytes place bytes refusal → RefusesBytes place bytes other → refusal ≡ other
one_refusal place bytes refusal other one two =
    let same = one_cause bytes one.fault two.fault (bytes_cause place bytes refusal one) (bytes_cause place bytes other two) in
    same_Some refusal other (sym one.is ∙ ap (λ (fault : DocFault). option_map (at_place place) (document_row fault)) same ∙ two.is)

pub refused_no_value : (place : Place) (bytes : List ℕ) (refusal : Printed) (P : Data → Type 0) → RefusesBytes place bytes refusal → HasValue bytes P → ⊥
refused_no_value place bytes refusal P refused has =
    no_value bytes refused.fault has.value (bytes_cause place bytes refusal refused) has.document

-- ---- a document, and the value of a batch document

-- one text is written of a document, if one is of its value
pub document_in_one : (place : Place) (P : Data → WritesIn) (bytes : List ℕ) (form : Form) → ((value : Data) → IsDocument bytes value → IsOne (P value form)) → IsOne (OfDocument place P bytes form)
document_in_one place P bytes form one a b s t (inl x) (inl y) = (x.ends ∙ sym y.ends, x.prints ∙ ap (fault_text form) (one_refusal place bytes x.refusal y.refusal x.is y.is) ∙ sym y.prints)
document_in_one place P bytes form one a b s t (inl x) (inr y) = absurd (refused_no_value place bytes x.refusal (λ value. P value form b t) x.is y)
document_in_one place P bytes form one a b s t (inr x) (inl y) = absurd (refused_no_value place bytes y.refusal (λ value. P value form a s) y.is x)
document_in_one place P bytes form one a b s t (inr x) (inr y) =
    one y.value y.document a b s t (subst (λ value. P value form a s) (one_value bytes x.value y.value x.document y.document) x.holds) y.holds

pub document_one : (place : Place) (P : Data → WritesIn) (bytes : List ℕ) (form : Form) → ((value : Data) → IsOne (P value form)) → IsOne (OfDocument place P bytes form)
document_one place P bytes form one = document_in_one place P bytes form (λ value is. one value)

least_one : AreFunctional → (value : Data) (s t : Printed) → IsLeastOfBatch value s → IsLeastOfBatch value t → s ≡ t
least_one law value s t (inl one) (inl two) =
    same_Some s t (sym one.is ∙ ap document_row (law.one_shape value one.fault two.fault (ap is_some one.is) (ap is_some two.is) one.refuses two.refuses) ∙ two.is)
least_one law value s t (inl one) (inr two) = absurd (law.no_shape value one.fault (ap is_some one.is) one.refuses two.refuses.shaped)
least_one law value s t (inr one) (inl two) = absurd (law.no_shape value two.fault (ap is_some two.is) two.refuses one.refuses.shaped)
least_one law value s t (inr one) (inr two) =
    let same = law.one_batch value _ _ one.refuses.is_batch two.refuses.is_batch in
    same_Some s t (sym one.is ∙ ap check_row (law.one_name two.refuses.batch one.fault two.fault (ap is_some one.is) (ap is_some two.is) (subst (RefusesNames one.fault) same one.refuses.holds) two.refuses.holds) ∙ two.is)

least_not_value : AreFunctional → (value : Data) (P : List Record → Type 0) (refusal : Printed) → IsLeastOfBatch value refusal → AcceptsValue value P → ⊥
least_not_value law value P refusal (inl one) is = law.no_shape value one.fault (ap is_some one.is) one.refuses is.shaped
least_not_value law value P refusal (inr one) is =
    law.no_name is.batch one.fault (ap is_some one.is) (subst (RefusesNames one.fault) (law.one_batch value _ _ one.refuses.is_batch is.is_batch) one.refuses.holds) is.holds.0

pub value_in_one : AreFunctional → (P : List Record → WritesIn) (form : Form) (value : Data) → ((batch : List Record) → IsBatchOf value batch → HasGoodNames batch → IsOne (P batch form)) → IsOne (AnswersValue P value form)
value_in_one law P form value one a b s t (inl x) (inl y) = (x.ends ∙ sym y.ends, x.prints ∙ ap (fault_text form) (least_one law value x.refusal y.refusal x.is y.is) ∙ sym y.prints)
value_in_one law P form value one a b s t (inl x) (inr y) = absurd (least_not_value law value (λ batch. P batch form b t) x.refusal x.is y)
value_in_one law P form value one a b s t (inr x) (inl y) = absurd (least_not_value law value (λ batch. P batch form a s) y.refusal y.is x)
value_in_one law P form value one a b s t (inr x) (inr y) =
    one y.batch y.is_batch y.holds.0 a b s t (subst (λ xs. P xs form a s) (law.one_batch value _ _ x.is_batch y.is_batch) x.holds.1) y.holds.1

pub value_one : AreFunctional → (P : List Record → WritesIn) (form : Form) → ((batch : List Record) → HasGoodNames batch → IsOne (P batch form)) → (value : Data) → IsOne (AnswersValue P value form)
value_one law P form one value = value_in_one law P form value (λ batch is. one batch)

-- ---- the cascade

-- one text is written of a document, if one is of each batch in it whose names are good
pub answers_in_one : AreFunctional → (P : List Record → WritesIn) (bytes : List ℕ) (form : Form) → ((d : Data) (batch : List Record) → IsBatchIn bytes d batch → HasGoodNames batch → IsOne (P batch form)) → IsOne (Answers P bytes form)
answers_in_one law P bytes form one = document_in_one Batch (AnswersValue P) bytes form (λ value document. value_in_one law P form value (λ batch is good. one value batch (record { json = document.1; is = is }) good))

pub answers_one : AreFunctional → (P : List Record → WritesIn) (bytes : List ℕ) (form : Form) → ((batch : List Record) → HasGoodNames batch → IsOne (P batch form)) → IsOne (Answers P bytes form)
answers_one law P bytes form one = answers_in_one law P bytes form (λ d batch is. one batch)

-- two readings of a batch that is accepted have the same requests
pub same_batch : AreFunctional → (bytes : List ℕ) (P Q : List Record → Type 0) → (one : Accepts bytes P) (two : Accepts bytes Q) → one.holds.batch ≡ two.holds.batch
same_batch law bytes P Q one two =
    law.one_batch two.value _ _ (subst (λ v. IsBatchOf v one.holds.batch) (one_value bytes one.value two.value one.document two.document) one.holds.is_batch) two.holds.is_batch

-- what is written of a batch that is accepted is what P writes of its requests
pub answers_accepted : AreFunctional → (P : List Record → WritesIn) (Q : List Record → Type 0) (bytes : List ℕ) (form : Form) (ended : Ended) (text : List ℕ) → Accepts bytes Q → Answers P bytes form ended text → Accepts bytes (λ batch. P batch form ended text)
answers_accepted law P Q bytes form ended text is (inl x) = absurd (refused_no_value Batch bytes x.refusal (λ value. AcceptsValue value Q) x.is is)
answers_accepted law P Q bytes form ended text is (inr y) = at y.holds
  where
    at : AnswersValue P y.value form ended text → Accepts bytes (λ batch. P batch form ended text)
    at (inl x) = absurd (least_not_value law y.value Q x.refusal x.is (subst (λ v. AcceptsValue v Q) (one_value bytes is.value y.value is.document y.document) is.holds))
    at (inr so) = record { value = y.value; document = y.document; holds = so }
