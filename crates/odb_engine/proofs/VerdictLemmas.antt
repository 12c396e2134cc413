-- A batch document is accepted if and only if it has no first fault; and the list of all faults begins with it.
use Rattle.std.proofs.Common.{◌≡◌, ◌∙◌, ◌↔◌, ◌<◌, ◌≤◌, inl, inr, ℕ, zero, suc, List, [], ◌∷◌, length, slice_get, Option, None, Some, IfSome, refl, sym, ap, subst, arith}
use Rattle.std.specs.List.{filter_map}
use Rattle.std.specs.Str.{is_utf8}
use Rattle.std.proofs.lemmas.Bool.{cases_Bool, cases_order}
use Rattle.std.proofs.lemmas.Str.{IsUtf8-from_is_utf8, is_utf8-from_IsUtf8}
use Rattle.serde_json.specs.Data.{Data}
use Rattle.serde_json.specs.Read.{read}
use Rattle.odb_doc.specs.declared.fault.DocFault.{DocFault}
use Rattle.odb_doc.specs.declared.fault.DocFault.TheVariants as doc
use Rattle.odb_doc.specs.declared.fault.DocumentRule.TheVariants as document
use Rattle.odb_doc.specs.declared.fault.Place.TheVariants.{Batch}
use Rattle.odb_doc.specs.Documents.{IsDocument, IsJson, most_bytes}
use Rattle.odb_doc.specs.Faults.{document_row}
use Rattle.odb_doc.specs.LeastRules.{NoneBroken}
use Rattle.odb_doc.specs.Refusals.{Printed}
use Rattle.odb_doc.specs.batch.LeastFault.{IsLeastFault, IsWellShaped}
use Rattle.odb_doc.specs.batch.Records.{IsBatchOf, Record}
use Rattle.odb_doc.specs.batch.ShapeFaults.{AreShapeFaults, IsShapeFault}
use Rattle.odb_doc.proofs.ElementLemmas.{Contains-head}
use Rattle.odb_doc.proofs.OneLeast.{by_phase}
use Rattle.odb_doc.proofs.ShapeFaultLemmas.{shape_first, shape_none}
use Rattle.odb_check.specs.FaultTable.{CheckFault, check_row}
use Rattle.odb_doc.specs.declared.rule_fault.RuleFault.TheVariants as check
use Rattle.odb_check.specs.AllNameFaults.{AreNameFaults, IsNameFault}
use Rattle.odb_check.specs.LeastNameFault.{HasGoodNames, RefusesNames}
use Rattle.odb_check.proofs.PhaseLemmas.{name_first, name_none}
use Rattle.odb_engine.specs.AllFaults.{AreFaultsIn, AreFaultsOf}
use Rattle.odb_engine.specs.Cascade.{Accepts, AcceptsValue, IsLeast}
use Rattle.odb_engine.specs.FirstFault.{Breaks, IsFirstFault, Rule, Document, Request, Names}
use Rattle.odb_engine.proofs.LawLemmas.{refused_no_value}
use Rattle.odb_engine.proofs.MemoryLemmas.{one_value}
use Rattle.odb_engine.proofs.FirstFaultLemmas.{BreaksPhase, BreaksValue, IsOneBatch, has, has_whole, later_phase, name_broken, number_of, phase_of, value_breaks}

-- ---- a document without a first fault

-- what holds if it holds of all numbers below, for each number
below : (P : ℕ → Type 0) → ((n : ℕ) → ((m : ℕ) → m < n → P m) → P n) → (n m : ℕ) → m < n → P m
below P step zero m less = absurd (omega (arith, less))
below P step (suc n) m less =
    elim (cases_order m n) [
      | inl same ↦ subst P (sym same) (step n (below P step n))
      | inr other ↦ elim other [ inl under ↦ below P step n m under | inr over ↦ absurd (omega (arith, less, over)) ]
    ]

each : (P : ℕ → Type 0) → ((n : ℕ) → ((m : ℕ) → m < n → P m) → P n) → (n : ℕ) → P n
each P step n = step n (below P step n)

module _ (bytes : List ℕ) (none : (rule : Rule) (at : ℕ) → ¬ IsFirstFault bytes rule at) where
  none_here : (ph at : ℕ) → ((p : ℕ) → p < ph → NoneBroken (BreaksPhase bytes p)) → ((i : ℕ) → i < at → (rule : Rule) → ¬ BreaksPhase bytes ph rule i) → (n : ℕ) → (rule : Rule) → number_of rule ≡ n → ¬ BreaksPhase bytes ph rule at
  none_here ph at earlier before =
      each (λ n. (rule : Rule) → number_of rule ≡ n → ¬ BreaksPhase bytes ph rule at) (λ n least rule is broken.
      none rule at (by_phase phase_of number_of (Breaks bytes) ph at rule earlier (record {
        here = record { broken = broken; least = λ other less. least (number_of other) (omega (arith, less, is)) other refl };
        before = λ other i less. before i less other;
      })))

  none_in : (ph : ℕ) → NoneBroken (BreaksPhase bytes ph)
  none_in =
      each (λ ph. NoneBroken (BreaksPhase bytes ph)) (λ ph earlier rule at.
      each (λ i. (other : Rule) → ¬ BreaksPhase bytes ph other i) (λ i before other. none_here ph i earlier before (number_of other) other refl) at rule)

  none_broken : (rule : Rule) (at : ℕ) → ¬ Breaks bytes rule at
  none_broken rule at broken = none_in (phase_of rule) rule at (refl, broken)

-- the bytes are a document
some_value : (bytes : List ℕ) → ((rule : Rule) (at : ℕ) → ¬ Breaks bytes rule at) → (value : Data) × IsDocument bytes value
some_value bytes none = at (read bytes) refl
  where
    short : length bytes ≤ most_bytes
    short = elim (cases_order (length bytes) most_bytes) [
      | inl same ↦ omega (arith, same)
      | inr other ↦ elim other [ inl under ↦ omega (arith, under) | inr over ↦ absurd (none (Document document.TooLong) 0 (refl, inl over)) ]
    ]

    json : ¬ ((d : Data) → ¬ IsJson bytes d)
    json never = none (Document document.NotJson) 0 (refl, inl (short, never))

    at : (o : Option Data) → read bytes ≡ o → (value : Data) × IsDocument bytes value
    at None is = absurd (json (λ d found. cc (is, found.1)))
    at (Some d) is = elim (cases_Bool (is_utf8 bytes)) [
      | inl utf8 ↦ (d, (short, (IsUtf8-from_is_utf8 bytes utf8, is)))
      | inr other ↦ absurd (json (λ e found. cc (other, is_utf8-from_IsUtf8 bytes found.0)))
    ]

-- a value without a fault of shape is a batch
abbrev pub IsSomeBatch : Type 0
IsSomeBatch = (value : Data) → IsWellShaped value → (requests : List Record) × IsBatchOf value requests

accepted : IsSomeBatch → (bytes : List ℕ) → ((rule : Rule) (at : ℕ) → ¬ Breaks bytes rule at) → Accepts bytes (λ _. Unit {0})
accepted some bytes none =
    let found = some_value bytes none in
    let value = found.0 in
    let is = found.1 in
    let shaped : IsWellShaped value = (
      λ rule broken. none (Document rule) 0 (has_whole bytes value is rule broken),
      λ rule at broken. none (Request rule) at (has bytes value is (Request rule) at (omega arith) broken),
    ) in
    let batch = some value shaped in
    let good : HasGoodNames batch.0 = λ rule at broken. none (Names rule) at (has bytes value is (Names rule) at (λ early. omega (arith, early, later_phase rule)) (batch.0, batch.1, broken)) in
    record { value = value; document = is; holds = record { batch = batch.0; shaped = shaped; is_batch = batch.1; holds = (good, tt) } }

unbroken : IsOneBatch → (bytes : List ℕ) → Accepts bytes (λ _. Unit {0}) → (rule : Rule) (at : ℕ) → ¬ Breaks bytes rule at
unbroken one bytes is rule at broken = never rule (value_breaks bytes is.value rule at is.document broken)
  where
    never : (rule : Rule) → ¬ BreaksValue is.value rule at
    never (Document rule) bad = is.holds.shaped.0 rule bad
    never (Request rule) bad = is.holds.shaped.1 rule at bad
    never (Names rule) bad = is.holds.holds.0 rule at (name_broken one is.value is.holds.batch rule at is.holds.is_batch bad)

pub accepted-none : IsOneBatch → IsSomeBatch → (bytes : List ℕ) → Accepts bytes (λ _. Unit {0}) ↔ ((rule : Rule) (at : ℕ) → ¬ IsFirstFault bytes rule at)
accepted-none one some bytes = (λ is rule at first. unbroken one bytes is rule at first.first.here.broken.1, λ none. accepted some bytes (none_broken bytes none))

-- ---- the list of all faults

-- its head is the least fault, and it is empty if and only if the document is accepted
abbrev pub HasLeast : List ℕ → List Printed → Type 0
HasLeast bytes refusals = IfSome (slice_get refusals 0) (IsLeast bytes) × ((refusals ≡ []) ↔ Accepts bytes (λ _. Unit {0}))

headed : (bytes : List ℕ) (refusal : Printed) (rest refusals : List Printed) → refusals ≡ refusal ∷ rest → IsLeast bytes refusal → ¬ Accepts bytes (λ _. Unit {0}) → HasLeast bytes refusals
headed bytes refusal rest refusals is least never = (subst (λ rs. IfSome (slice_get rs 0) (IsLeast bytes)) (sym is) least, (λ none. absurd (cc (none, is)), λ so. absurd (never so)))

module _ (one : IsOneBatch) (bytes : List ℕ) (value : Data) (document : IsDocument bytes value) where
  shape_head : (faults : List DocFault) (refusals : List Printed) → ¬ IsWellShaped value → AreShapeFaults value faults → refusals ≡ filter_map document_row faults → HasLeast bytes refusals
  shape_head [] refusals bad are is = absurd (bad ((shape_none value [] are).0 refl))
  shape_head (fault ∷ rest) refusals bad are is = at fault refl ((are.exact fault).0 (Contains-head fault rest)) (shape_first value (fault ∷ rest) are)
    where
      never : ¬ Accepts bytes (λ _. Unit {0})
      never so = bad (subst IsWellShaped (one_value bytes so.value value so.document document) so.holds.shaped)

      at : (other : DocFault) → fault ≡ other → IsShapeFault value other → IsLeastFault fault value → HasLeast bytes refusals
      at (doc.Document rule) same shape least = headed bytes _ (filter_map document_row rest) refusals (is ∙ ap (λ f. filter_map document_row (f ∷ rest)) same) (inr (record { value = value; document = document; holds = inl (record { fault = fault; refuses = least; is = ap document_row same }) })) never
      at (doc.Request i rule) same shape least = headed bytes _ (filter_map document_row rest) refusals (is ∙ ap (λ f. filter_map document_row (f ∷ rest)) same) (inr (record { value = value; document = document; holds = inl (record { fault = fault; refuses = least; is = ap document_row same }) })) never
      at doc.OutOfMemory same shape least = absurd shape

  name_head : (batch : List Record) (faults : List CheckFault) (refusals : List Printed) → IsWellShaped value → IsBatchOf value batch → AreNameFaults batch faults → refusals ≡ filter_map check_row faults → HasLeast bytes refusals
  name_head batch [] refusals shaped is_batch are is =
      (subst (λ rs. IfSome (slice_get rs 0) (IsLeast bytes)) (sym is) tt, (λ none. record { value = value; document = document; holds = record { batch = batch; shaped = shaped; is_batch = is_batch; holds = ((name_none batch [] are).0 refl, tt) } }, λ so. is))
  name_head batch (fault ∷ rest) refusals shaped is_batch are is = at fault refl ((are.exact fault).0 (Contains-head fault rest)) (name_first batch (fault ∷ rest) are)
    where
      never : ¬ Accepts bytes (λ _. Unit {0})
      never so =
          let there = subst (λ d. IsBatchOf d so.holds.batch) (one_value bytes so.value value so.document document) so.holds.is_batch in
          let good = subst HasGoodNames (one value so.holds.batch batch there is_batch) so.holds.holds.0 in
          cc ((name_none batch (fault ∷ rest) are).1 good)

      at : (other : CheckFault) → fault ≡ other → IsNameFault batch other → RefusesNames fault batch → HasLeast bytes refusals
      at (check.Broken i rule) same name least =
          headed bytes _ (filter_map check_row rest) refusals (is ∙ ap (λ f. filter_map check_row (f ∷ rest)) same)
          (inr (record { value = value; document = document; holds = inr (record { fault = fault; refuses = record { batch = batch; shaped = shaped; is_batch = is_batch; holds = least }; is = ap check_row same }) })) never
      at check.OutOfMemory same name least = absurd name

  value_head : (refusals : List Printed) → AreFaultsOf value refusals → HasLeast bytes refusals
  value_head refusals (inl (bad, found)) = shape_head found.faults refusals bad found.are found.is
  value_head refusals (inr found) = name_head found.batch found.holds.faults refusals found.shaped found.is_batch found.holds.are found.holds.is

pub listed-least : IsOneBatch → (bytes : List ℕ) (refusals : List Printed) → AreFaultsIn bytes refusals → HasLeast bytes refusals
listed-least one bytes refusals (inl alone) = headed bytes alone.refusal [] refusals alone.is (inl alone.refuses) (λ so. refused_no_value Batch bytes alone.refusal (λ value. AcceptsValue value (λ _. Unit {0})) alone.refuses so)
listed-least one bytes refusals (inr has) = value_head one bytes has.value has.document refusals has.holds
