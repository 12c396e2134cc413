-- The outcomes that elements are, one by one.
use Rattle.std.proofs.Common.{◌≡◌, ◌∙◌, ◌==◌, ◌+◌, ◌≤◌, ℕ, false, List, [], ◌∷◌, ◌++◌, length, inl, inr, refl, ap, sym, arith}
use Rattle.std.specs.List.{AllZip}
use Rattle.std.specs.Map.{keys_of}
use Rattle.std.proofs.lemmas.Bool.{cases_order}
use Rattle.std.proofs.lemmas.Bool.Decides.{nat_tests}
use Rattle.std.proofs.lemmas.List.{map-append}
use Rattle.std.proofs.lemmas.List.Elements.{filter_map-append}
use Rattle.serde_json.specs.Data.{Data}
use Rattle.odb_doc.specs.declared.recorded.outcome_fault.OutcomeRule.{OutcomeRule}
use Rattle.odb_doc.specs.recorded.LeastOutcomeFault.{BreaksOutcome}
use Rattle.odb_doc.specs.recorded.Outcomes.{Recorded, ReadsAs, id_of, ids}
use Rattle.odb_doc.specs.recorded.RawOutcomes.{Repeats}
use Rattle.odb_doc.specs.SameTexts.{IsFirstRepeat}

-- what an outcome breaks, judged by those before it
abbrev pub Breaks : OutcomeRule → List Data → Data → Type 0
Breaks rule before d = BreaksOutcome rule (ids before) d

-- outcomes have the ids of the elements that they were read from
pub ids-says : (ds : List Data) (entries : List Recorded) → AllZip ReadsAs ds entries → ids ds ≡ keys_of entries
ids-says [] [] says = refl
ids-says [] (e ∷ es) says = absurd says
ids-says (d ∷ ds) [] says = absurd says
ids-says (d ∷ ds) (e ∷ es) says = rw says.0.id (ap (λ rest. e.0 ∷ rest) (ids-says ds es says.1))

pub keys_of-push : (entries : List Recorded) (entry : Recorded) → keys_of (entries ++ entry ∷ []) ≡ keys_of entries ++ entry.0 ∷ []
keys_of-push entries entry = map-append (λ (e : Recorded). e.0) entries (entry ∷ [])

-- whether the next element has an id of those before it, by where an id repeats first
pub repeats_here : (all done rest : List Data) (d : Data) (k n : ℕ) → all ≡ done ++ d ∷ rest → IsFirstRepeat (ids all) k → n ≡ length (ids done) → n ≤ k → Repeats (n == k) (ids done) d
repeats_here all done rest d k n whole first long within = λ id is.
    let split : ids all ≡ ids done ++ id ∷ ids rest = ap ids whole ∙ filter_map-append id_of done (d ∷ rest) ∙ rw is refl in
    elim (cases_order n k) [
      | inl same ↦ first.again (ids done) (ids rest) id split (sym long ∙ same) ∙ grind (arith, nat_tests, same)
      | inr other ↦ elim other [
        | inl less ↦ first.apart (ids done) (ids rest) id split (omega (arith, long, less)) ∙ grind (arith, nat_tests, less)
        | inr past ↦ absurd (omega (arith, past, within))
      ]
    ]

-- the next place is no further than where an id repeats first, unless it is that
pub within_more : (n k : ℕ) → n ≤ k → (n == k) ≡ false → n + 1 ≤ k
within_more n k within other = grind (arith, nat_tests, within, other)
