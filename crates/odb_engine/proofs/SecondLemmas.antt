-- A reader gives one document, and a second document has one least fault or one reading: so what is written by it is one text.
use Rattle.std.proofs.Common.{◌≡◌, ◌⊎◌, ◌∙◌, ℕ, ◌<◌, List, length, take, Option, Some, IsSome, is_some, inl, inr, sym, ap, subst, arith, length-append}
use Rattle.std.proofs.lemmas.Bool.{cases_order}
use Rattle.std.proofs.lemmas.Option.{same_Some}
use Rattle.std.proofs.Math.Seq.{take-append_seam}
use Rattle.serde_json.specs.Data.{Data}
use Rattle.odb_doc.specs.Refusals.{Printed}
use Rattle.odb_engine.specs.declared.form.Form.{Form}
use Rattle.odb_engine.specs.Cascade.{Writes, WritesIn, HasFault, HasValue, Reports, IsOne}
use Rattle.odb_engine.specs.Forms.{fault_text}
use Rattle.odb_engine.specs.Inputs.{IsDocumentOf, SomeDocument}
use Rattle.odb_engine.proofs.MemoryLemmas.{one_value}

-- ---- one document of a reader

shorter : (left a b : List ℕ) → IsDocumentOf left a → IsDocumentOf left b → length a < length b → ⊥
shorter left a b x y less =
    let none = ap length (x.ends (omega (arith, y.within))) in
    omega (arith, none, simp length-append at (ap length x.whole), simp length-append at (ap length y.whole))

pub one_document : (left a b : List ℕ) → IsDocumentOf left a → IsDocumentOf left b → a ≡ b
one_document left a b x y = elim (cases_order (length a) (length b)) [
  | inl same ↦ sym (take-append_seam a x.rest) ∙ ap (take (length a)) (sym x.whole) ∙ ap (λ n. take n left) same ∙ ap (take (length b)) y.whole ∙ take-append_seam b y.rest
  | inr (inl less) ↦ absurd (shorter left a b x y less)
  | inr (inr less) ↦ absurd (shorter left b a y x less)
]

-- if each document has one text, so has the reader of one
pub some_document_one : (left : List ℕ) (W : List ℕ → Writes) → ((bytes : List ℕ) → IsOne (W bytes)) → IsOne (λ ended text. SomeDocument (Some left) (λ bytes. W bytes ended text))
some_document_one left W one a b s t (bytes, gives, x) (others, give, y) =
    one others a b s t (subst (λ document. W document a s) (one_document left bytes others gives give) x) y

-- ---- one reading of a document

-- the laws of a kind of document: a value has one least fault, and none if it is good, and it reads as one thing
pub record IsOneKind {F X : Type 0} (row : F → Option Printed) (Refuses : F → Data → Type 0) (IsGood : Data → Type 0) (Reads : Data → X → Type 0) : Type 0 where
  pub one_fault : (value : Data) (fault other : F) → IsSome (row fault) → IsSome (row other) → Refuses fault value → Refuses other value → fault ≡ other
  pub no_fault : (value : Data) (fault : F) → IsSome (row fault) → Refuses fault value → ¬ IsGood value
  pub one_reading : (value : Data) (x y : X) → Reads value x → Reads value y → x ≡ y

module _ {F X : Type 0} (row : F → Option Printed) (Refuses : F → Data → Type 0) (IsGood : Data → Type 0) (Reads : Data → X → Type 0) (law : IsOneKind row Refuses IsGood Reads) where
  abbrev IsReadAs : Data → X → Type 0
  IsReadAs value x = IsGood value × Reads value x

  -- what is written of a value, by what it reads as
  abbrev ByReading : (X → WritesIn) → Data → WritesIn
  ByReading W value form ended text = Reports (HasFault Refuses row value) form ended text ⊎ ((x : X) × IsReadAs value x × W x form ended text)

  least_one : (value : Data) (s t : Printed) → HasFault Refuses row value s → HasFault Refuses row value t → s ≡ t
  least_one value s t one two = same_Some s t (sym one.is ∙ ap row (law.one_fault value one.fault two.fault (ap is_some one.is) (ap is_some two.is) one.refuses two.refuses) ∙ two.is)

  pub least_not : (value : Data) (x : X) (refusal : Printed) → HasFault Refuses row value refusal → ¬ IsReadAs value x
  least_not value x refusal one is = law.no_fault value one.fault (ap is_some one.is) one.refuses is.0

  -- one text is written of a value, if one is by each reading
  pub reading_one : (W : X → WritesIn) → ((x : X) (form : Form) → IsOne (W x form)) → (value : Data) (form : Form) → IsOne (ByReading W value form)
  reading_one W one value form a b s t (inl x) (inl y) = (x.ends ∙ sym y.ends, x.prints ∙ ap (fault_text form) (least_one value x.refusal y.refusal x.is y.is) ∙ sym y.prints)
  reading_one W one value form a b s t (inl x) (inr (other, is, so)) = absurd (least_not value other x.refusal x.is is)
  reading_one W one value form a b s t (inr (reading, is, so)) (inl y) = absurd (least_not value reading y.refusal y.is is)
  reading_one W one value form a b s t (inr (reading, is, so)) (inr (other, too, also)) =
      one other form a b s t (subst (λ x. W x form a s) (law.one_reading value reading other is.1 too.1) so) also

  -- two readings of the bytes of a document are equal
  pub one_reading : (bytes : List ℕ) (x y : X) → HasValue bytes (λ value. IsReadAs value x) → HasValue bytes (λ value. IsReadAs value y) → x ≡ y
  one_reading bytes x y one two =
      law.one_reading two.value x y (subst (λ value. Reads value x) (one_value bytes one.value two.value one.document two.document) one.holds.1) two.holds.1
