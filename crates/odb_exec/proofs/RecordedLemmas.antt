-- Recorded outcomes by id and by position.
use Rattle.std.proofs.Common.{◌≡◌, ℕ, ◌<◌, ◌∙◌, ap, sym, refl, subst, arith, Bool, true, false, cond, List, [], ◌∷◌, ◌++◌, length, append-nil, append_assoc, set, get_or, replicate, inl, inr, Option, Some, None, option_map, unwrap_or, slice_get, bytes_eq, IsSomeAnd, get_or-set_same, get_or-set_other}
use Rattle.std.proofs.lemmas.Bool.{cases_eq, cases_lt, false_from_ne_true}
use Rattle.std.proofs.lemmas.List.{length-set, length-map, same_lists, get_or_default}
use Rattle.std.proofs.lemmas.Option.{slice_get-map, unwrap_or-slice_get, same_Some}
use Rattle.std.proofs.lemmas.Slice.Eq.{bytes_eq-Decides}
use Rattle.odb_doc.specs.declared.recorded.outcome.Outcome.{Outcome}
use Rattle.odb_doc.specs.batch.Records.{Record}
use Rattle.odb_check.specs.declared.fault.NameRule.TheVariants as rules
use Rattle.odb_check.specs.LeastNameFault.{HasGoodNames}
use Rattle.odb_check.specs.Positions.{id_at, IsIdBefore}
use Rattle.odb_check.specs.Units.{position_of}
use Rattle.odb_exec.specs.Recordings.{outcome_for, recorded_for, noted_at}
use Rattle.odb_check.proofs.PositionLemmas.{position_first, position_none}
use Rattle.odb_sched.proofs.ListLemmas.{slice_get-some}

-- lists of one length with the same elements are the same
same_at : {X : Type 0} (e : X) (xs ys : List X) → length xs ≡ length ys → ((k : ℕ) → k < length xs → get_or xs k e ≡ get_or ys k e) → xs ≡ ys
same_at e xs ys each same = same_lists xs ys each (λ k d within. get_or_default xs k d e within ∙ same k within ∙ get_or_default ys k e d (omega arith))

-- no two positions have the same identifier
pub same_place : (batch : List Record) (id : List ℕ) (i j : ℕ) → HasGoodNames batch → id_at batch i ≡ Some id → id_at batch j ≡ Some id → i ≡ j
same_place batch id i j good here there = elim (cases_eq i j) [
  | inl same ↦ same
  | inr other ↦ elim (cases_lt i j) [
    | inl before ↦ absurd (good rules.IdTwice j (subst (λ found. IsSomeAnd found (λ name. IsIdBefore batch name j)) (sym there) (i, before, here)))
    | inr later ↦ absurd (good rules.IdTwice i (subst (λ found. IsSomeAnd found (λ name. IsIdBefore batch name i)) (sym here) (j, omega arith, there)))
  ]
]

length-recorded : (batch : List Record) (entries : List (List ℕ × Outcome)) → length (recorded_for batch entries) ≡ length batch
length-recorded batch entries = length-map batch (λ r. outcome_for entries r.id)

-- what is recorded at a position
recorded-at : (batch : List Record) (entries : List (List ℕ × Outcome)) (k : ℕ) (request : Record) → slice_get batch k ≡ Some request → get_or (recorded_for batch entries) k None ≡ outcome_for entries request.id
recorded-at batch entries k request here =
    sym (unwrap_or-slice_get (recorded_for batch entries) k None)
    ∙ ap (λ found. unwrap_or found None) (slice_get-map (λ r. outcome_for entries r.id) batch k)
    ∙ ap (λ found. unwrap_or (option_map (λ r. outcome_for entries r.id) found) None) here

-- the first entry of an id is what is recorded for it
outcome-first : (id other : List ℕ) (outcome : Outcome) (rest : List (List ℕ × Outcome)) (b : Bool) → bytes_eq id other ≡ b → outcome_for ((id, outcome) ∷ rest) other ≡ cond b (Some outcome) (outcome_for rest other)
outcome-first id other outcome rest true same = rw same refl
outcome-first id other outcome rest false same = rw same refl

-- an outcome for the request at a position is noted there
recorded-found : (batch : List Record) (id : List ℕ) (outcome : Outcome) (rest : List (List ℕ × Outcome)) (i : ℕ) → HasGoodNames batch → position_of batch id ≡ Some i
    → recorded_for batch ((id, outcome) ∷ rest) ≡ set (recorded_for batch rest) i (Some outcome)
recorded-found batch id outcome rest i good found =
    let (within, first) = position_first batch id i found in
    same_at None (recorded_for batch ((id, outcome) ∷ rest)) (set (recorded_for batch rest) i (Some outcome))
    (length-recorded batch ((id, outcome) ∷ rest) ∙ sym (length-set (recorded_for batch rest) i (Some outcome) ∙ length-recorded batch rest))
    (λ k inside.
    let inside : k < length batch = subst (λ n. k < n) (length-recorded batch ((id, outcome) ∷ rest)) inside in
    let (request, here) = slice_get-some batch k inside in
    let name : id_at batch k ≡ Some request.id = ap (option_map (λ r. r.id)) here in
    recorded-at batch ((id, outcome) ∷ rest) k request here ∙ elim (cases_eq k i) [
      | inl same ↦
          let is : bytes_eq id request.id ≡ true = (bytes_eq-Decides id request.id).1 (same_Some id request.id (sym first.here ∙ ap (id_at batch) (sym same) ∙ name)) in
          outcome-first id request.id outcome rest true is ∙ rw same (sym (get_or-set_same (recorded_for batch rest) i (Some outcome) None (subst (λ n. i < n) (sym (length-recorded batch rest)) within)))
      | inr other ↦
          let is_not : bytes_eq id request.id ≡ false = false_from_ne_true (bytes_eq id request.id) (λ e. other (same_place batch id k i good (name ∙ ap Some (sym ((bytes_eq-Decides id request.id).0 e))) first.here)) in
          outcome-first id request.id outcome rest false is_not ∙ sym (recorded-at batch rest k request here) ∙ sym (get_or-set_other (recorded_for batch rest) i k (Some outcome) None other)
    ])

-- an outcome for no request of the batch is not used
recorded-unknown : (batch : List Record) (id : List ℕ) (outcome : Outcome) (rest : List (List ℕ × Outcome)) → position_of batch id ≡ None → recorded_for batch ((id, outcome) ∷ rest) ≡ recorded_for batch rest
recorded-unknown batch id outcome rest unknown =
    same_at None (recorded_for batch ((id, outcome) ∷ rest)) (recorded_for batch rest)
    (length-recorded batch ((id, outcome) ∷ rest) ∙ sym (length-recorded batch rest))
    (λ k inside.
    let inside : k < length batch = subst (λ n. k < n) (length-recorded batch ((id, outcome) ∷ rest)) inside in
    let (request, here) = slice_get-some batch k inside in
    let name : id_at batch k ≡ Some request.id = ap (option_map (λ r. r.id)) here in
    let is_not : bytes_eq id request.id ≡ false = false_from_ne_true _ (λ e. position_none batch id unknown k (name ∙ ap Some (sym ((bytes_eq-Decides id request.id).0 e)))) in
    recorded-at batch ((id, outcome) ∷ rest) k request here ∙ outcome-first id request.id outcome rest false is_not ∙ sym (recorded-at batch rest k request here))

-- nothing is recorded before any outcome
pub recorded-none : (batch : List Record) → recorded_for batch [] ≡ replicate (length batch) None
recorded-none [] = refl
recorded-none (request ∷ batch) = ap (λ rest. None ∷ rest) (recorded-none batch)

-- an outcome is noted at the position of its request, if it is one of the batch
pub recorded-more : (batch : List Record) (id : List ℕ) (outcome : Outcome) (rest : List (List ℕ × Outcome)) → HasGoodNames batch
    → recorded_for batch ((id, outcome) ∷ rest) ≡ noted_at (position_of batch id) (recorded_for batch rest) outcome
recorded-more batch id outcome rest good = at (position_of batch id) refl
  where
    at : (found : Option ℕ) → position_of batch id ≡ found → recorded_for batch ((id, outcome) ∷ rest) ≡ noted_at found (recorded_for batch rest) outcome
    at None unknown = recorded-unknown batch id outcome rest unknown
    at (Some i) found = recorded-found batch id outcome rest i good found

-- the last of all entries are noted, and the others are not yet
pub record AreNoted (batch : List Record) (all left : List (List ℕ × Outcome)) (outcomes : List (Option Outcome)) : Type 0 where
  pub noted : List (List ℕ × Outcome)
  pub whole : all ≡ left ++ noted
  pub is : outcomes ≡ recorded_for batch noted

pub noted-first : (batch : List Record) (all : List (List ℕ × Outcome)) (outcomes : List (Option Outcome)) → outcomes ≡ replicate (length batch) None → AreNoted batch all all outcomes
noted-first batch all outcomes none = record { noted = []; whole = sym (append-nil all); is = none ∙ sym (recorded-none batch) }

pub noted-more : (batch : List Record) (all old left : List (List ℕ × Outcome)) (id : List ℕ) (outcome : Outcome) (outcomes new : List (Option Outcome)) → HasGoodNames batch
    → AreNoted batch all old outcomes → old ≡ left ++ (id, outcome) ∷ [] → new ≡ noted_at (position_of batch id) outcomes outcome → AreNoted batch all left new
noted-more batch all old left id outcome outcomes new good are last note = record {
  noted = (id, outcome) ∷ are.noted;
  whole = are.whole ∙ ap (λ xs. xs ++ are.noted) last ∙ append_assoc left ((id, outcome) ∷ []) are.noted;
  is = note ∙ ap (λ found. noted_at (position_of batch id) found outcome) are.is ∙ sym (recorded-more batch id outcome are.noted good);
}

pub noted-all : (batch : List Record) (all left : List (List ℕ × Outcome)) (outcomes : List (Option Outcome)) → AreNoted batch all left outcomes → left ≡ [] → outcomes ≡ recorded_for batch all
noted-all batch all left outcomes are none = are.is ∙ ap (recorded_for batch) (sym (are.whole ∙ ap (λ xs. xs ++ are.noted) none))

pub length-noted : (batch : List Record) (all left : List (List ℕ × Outcome)) (outcomes : List (Option Outcome)) → AreNoted batch all left outcomes → length outcomes ≡ length batch
length-noted batch all left outcomes are = ap length are.is ∙ length-recorded batch are.noted

pub length-noted_at : (found : Option ℕ) (outcomes : List (Option Outcome)) (outcome : Outcome) → length (noted_at found outcomes outcome) ≡ length outcomes
length-noted_at None outcomes outcome = refl
length-noted_at (Some i) outcomes outcome = length-set outcomes i (Some outcome)
