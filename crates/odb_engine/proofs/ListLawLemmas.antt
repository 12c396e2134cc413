-- The list of all faults of a batch document is one, and so is what is written of them.
use Rattle.std.proofs.Common.{◌≡◌, ◌∙◌, ◌↔◌, ◌⊎◌, ◌<◌, ◌+◌, ℕ, zero, suc, Bool, true, false, List, [], ◌∷◌, length, get_or, inl, inr, refl, sym, ap, ap₂, subst, arith}
use Rattle.std.specs.Prelude.{Contains}
use Rattle.std.specs.List.{AllAdjacentBelow, filter_map}
use Rattle.serde_json.specs.Data.{Data}
use Rattle.odb_doc.specs.declared.fault.Place.TheVariants.{Batch}
use Rattle.odb_doc.specs.AllFaults.{IsBefore}
use Rattle.odb_doc.specs.AllFaults as listed
use Rattle.odb_doc.specs.Faults.{document_row}
use Rattle.odb_doc.specs.Refusals.{Printed}
use Rattle.odb_doc.specs.batch.Records.{Record}
use Rattle.odb_doc.specs.batch.ShapeFaults.{shape_place}
use Rattle.odb_doc.proofs.ElementLemmas.{Contains-head, Contains-tail}
use Rattle.odb_doc.proofs.ListedLemmas.{before_itself, before_trans}
use Rattle.odb_check.specs.AllNameFaults.{AreNameFaults, name_place}
use Rattle.odb_check.specs.FaultTable.{check_row}
use Rattle.odb_engine.specs.declared.form.Form.{Form}
use Rattle.odb_engine.specs.declared.ending.Ended.TheVariants.{Done, Refused}
use Rattle.odb_engine.specs.AllFaults.{AreFaultsIn, AreFaultsOf, Lists, ListsAll}
use Rattle.odb_engine.specs.Cascade.{IsOne, WritesIn}
use Rattle.odb_engine.specs.Forms.{faults_text}
use Rattle.odb_engine.proofs.LawLemmas.{AreFunctional, one_refusal, refused_no_value}
use Rattle.odb_engine.proofs.MemoryLemmas.{one_value}

-- ---- two lists in order that have the same elements

module _ {F : Type 0} (place : F → ℕ × ℕ) where
  abbrev AreOrdered : List F → Type 0
  AreOrdered xs = AllAdjacentBelow (λ x y. IsBefore (place x) (place y)) xs (length xs)

  tail-ordered : (x : F) (xs : List F) → AreOrdered (x ∷ xs) → AreOrdered xs
  tail-ordered x xs ordered k d less =
      let next : suc k + 1 ≡ suc (k + 1) = omega arith in
      subst (λ (n : ℕ). IsBefore (place (get_or xs k d)) (place (get_or (x ∷ xs) n d))) next (ordered (suc k) d (omega (arith, less)))

  -- the first comes before the others
  before-all : (x : F) (xs : List F) → AreOrdered (x ∷ xs) → (k : ℕ) (d : F) → k < length xs → IsBefore (place x) (place (get_or xs k d))
  before-all x xs ordered zero d less = ordered zero d (omega (arith, less))
  before-all x xs ordered (suc k) d less =
      let next : k + 1 ≡ suc k = omega arith in
      let step = subst (λ (n : ℕ). IsBefore (place (get_or xs k d)) (place (get_or xs n d))) next (tail-ordered x xs ordered k d (omega (arith, less))) in
      before_trans (place x) (place (get_or xs k d)) (place (get_or xs (suc k) d)) (before-all x xs ordered k d (omega (arith, less))) step

  before-each : (x y : F) (xs : List F) → AreOrdered (x ∷ xs) → Contains xs y → IsBefore (place x) (place y)
  before-each x y xs ordered h = subst (λ (f : F). IsBefore (place x) (place f)) h.2 (before-all x xs ordered h.0 y h.1)

  in-tail : (x y : F) (xs : List F) → Contains (x ∷ xs) y → (x ≡ y) ⊎ Contains xs y
  in-tail x y xs (zero, less, is) = inl is
  in-tail x y xs (suc k, less, is) = inr (k, omega (arith, less), is)

  none-in : (y : F) → ¬ Contains [] y
  none-in y h = omega (arith, h.1)

  -- the others are those of the other list
  tails : (x y f : F) (xs ys : List F) → AreOrdered (x ∷ xs) → x ≡ y → (Contains (x ∷ xs) f → Contains (y ∷ ys) f) → Contains xs f → Contains ys f
  tails x y f xs ys ordered head to h = elim (in-tail y f ys (to (Contains-tail x f xs h))) [
    | inl is ↦ absurd (before_itself (place x) (subst (λ (z : F). IsBefore (place x) (place z)) (sym (head ∙ is)) (before-each x f xs ordered h)))
    | inr other ↦ other
  ]

  heads : (x y : F) (xs ys : List F) → AreOrdered (x ∷ xs) → AreOrdered (y ∷ ys) → (x ≡ y) ⊎ Contains xs y → (y ≡ x) ⊎ Contains ys x → x ≡ y
  heads x y xs ys a b (inl is) other = is
  heads x y xs ys a b (inr later) (inl is) = sym is
  heads x y xs ys a b (inr later) (inr earlier) = absurd (before_itself (place x) (before_trans (place x) (place y) (place x) (before-each x y xs a later) (before-each y x ys b earlier)))

  ordered-one : (xs ys : List F) → AreOrdered xs → AreOrdered ys → ((f : F) → Contains xs f ↔ Contains ys f) → xs ≡ ys
  ordered-one [] [] a b same = refl
  ordered-one [] (y ∷ ys) a b same = absurd (none-in y ((same y).1 (Contains-head y ys)))
  ordered-one (x ∷ xs) [] a b same = absurd (none-in x ((same x).0 (Contains-head x xs)))
  ordered-one (x ∷ xs) (y ∷ ys) a b same =
      let head = heads x y xs ys a b (in-tail x y xs ((same y).1 (Contains-head y ys))) (in-tail y x ys ((same x).0 (Contains-head x xs))) in
      let rest = ordered-one xs ys (tail-ordered x xs a) (tail-ordered y ys b) (λ f. (tails x y f xs ys a head (same f).0, tails y x f ys xs b (sym head) (same f).1)) in
      ap₂ (λ (z : F) (zs : List F). z ∷ zs) head rest

  -- two lists of all faults of one kind are equal
  lists-one : (IsFault : F → Type 0) (xs ys : List F) → listed.ListsAll place IsFault xs → listed.ListsAll place IsFault ys → xs ≡ ys
  lists-one IsFault xs ys one two = ordered-one xs ys one.ordered two.ordered (λ f. (λ h. (two.exact f).1 ((one.exact f).0 h), λ h. (one.exact f).1 ((two.exact f).0 h)))

-- ---- all faults of a batch document

value-faults-one : AreFunctional → (value : Data) (refusals others : List Printed) → AreFaultsOf value refusals → AreFaultsOf value others → refusals ≡ others
value-faults-one law value refusals others (inl (bad, one)) (inl (worse, two)) = one.is ∙ ap (filter_map document_row) (lists-one shape_place _ one.faults two.faults one.are two.are) ∙ sym two.is
value-faults-one law value refusals others (inl (bad, one)) (inr two) = absurd (bad two.shaped)
value-faults-one law value refusals others (inr one) (inl (bad, two)) = absurd (bad one.shaped)
value-faults-one law value refusals others (inr one) (inr two) =
    let same = law.one_batch value one.batch two.batch one.is_batch two.is_batch in
    let are = subst (λ (batch : List Record). AreNameFaults batch one.holds.faults) same one.holds.are in
    one.holds.is ∙ ap (filter_map check_row) (lists-one name_place _ one.holds.faults two.holds.faults are two.holds.are) ∙ sym two.holds.is

pub all-faults-one : AreFunctional → (bytes : List ℕ) (refusals others : List Printed) → AreFaultsIn bytes refusals → AreFaultsIn bytes others → refusals ≡ others
all-faults-one law bytes refusals others (inl one) (inl two) = one.is ∙ ap (λ (r : Printed). r ∷ []) (one_refusal Batch bytes one.refusal two.refusal one.refuses two.refuses) ∙ sym two.is
all-faults-one law bytes refusals others (inl one) (inr two) = absurd (refused_no_value Batch bytes one.refusal (λ value. AreFaultsOf value others) one.refuses two)
all-faults-one law bytes refusals others (inr one) (inl two) = absurd (refused_no_value Batch bytes two.refusal (λ value. AreFaultsOf value refusals) two.refuses one)
all-faults-one law bytes refusals others (inr one) (inr two) =
    value-faults-one law two.value refusals others (subst (λ (value : Data). AreFaultsOf value refusals) (one_value bytes one.value two.value one.document two.document) one.holds) two.holds

-- ---- what is written

pub done-refused : Done ≡ Refused → ⊥
done-refused same = cc (same)

-- one text is written with the first fault, so one is with all of them
pub written-one : AreFunctional → (all : Bool) (P : WritesIn) (bytes : List ℕ) (form : Form) → IsOne (P form) → IsOne (Lists all P (AreFaultsIn bytes) form)
written-one law false P bytes form one = one
written-one law true P bytes form one = at
  where
    at : IsOne (ListsAll P (AreFaultsIn bytes) form)
    at a b s t (inl (ends, so)) (inl (too, also)) = (ends ∙ sym too, (one Done Done s t so also).1)
    at a b s t (inl (ends, so)) (inr two) = absurd (done-refused (one Done Refused s two.line so two.refused).0)
    at a b s t (inr first) (inl (too, also)) = absurd (done-refused (one Done Refused t first.line also first.refused).0)
    at a b s t (inr first) (inr two) = (first.ends ∙ sym two.ends, first.prints ∙ ap (faults_text form) (all-faults-one law bytes first.refusals two.refusals first.all two.all) ∙ sym two.prints)
