-- The rows of the pairs of all needs have the dependents of each key, as often as they need it.
use Rattle.std.proofs.Common.{◌≡◌, ◌≢◌, ℕ, zero, suc, ◌<◌, ◌≤◌, ◌+◌, ◌==◌, ◌∙◌, sym, ap, refl, subst, arith, Bool, true, false, cond, if◌then◌else◌, eq-eqb, ne_eqb, List, [], ◌∷◌, ◌++◌, length, get_or, map, inl, inr, All, count_by, Result, Ok, Err, IfOk}
use Rattle.std.proofs.lemmas.Bool.{cases_lt}
use Rattle.std.proofs.lemmas.List.Sums.{sum_by-cons, sum_by-append}
use Rattle.std.proofs.lemmas.List.Elements.{All-nil, All-cons, All-head, All-tail, All-append, All-map, All-weaker, All-get_or}
use Rattle.odb_check.specs.declared.need.Need.{Need}
use Rattle.odb_check.specs.declared.need.Need.TheVariants.{One, Group}
use Rattle.odb_check.specs.Firsts.{joined_below}
use Rattle.odb_check.specs.PlanGraph.{PlanGraph, IsPlan, needs_of, IsNeed}
use Rattle.odb_dense.specs.ByKey.{of_key, HaveKeys}
use Rattle.odb_sched.specs.invariants.Dependents.{AreDependents, key_of, need_count}
use Rattle.odb_sched.specs.invariants.Graphs.{need_pairs, all_pairs}
use Rattle.odb_sched.proofs.SpanLemmas.{known_needs}

-- the row of two lists of pairs
of_key-append : (key : ℕ) (ps qs : List (ℕ × ℕ)) → of_key key (ps ++ qs) ≡ of_key key ps ++ of_key key qs
of_key-append key [] qs = refl
of_key-append key (p ∷ ps) qs = at (p.0 == key) (of_key-append key ps qs)
  where
    at : (b : Bool) → of_key key (ps ++ qs) ≡ of_key key ps ++ of_key key qs → (if b then p.1 ∷ of_key key (ps ++ qs) else of_key key (ps ++ qs)) ≡ (if b then p.1 ∷ of_key key ps else of_key key ps) ++ of_key key qs
    at true rest = ap (λ (xs : List ℕ). p.1 ∷ xs) rest
    at false rest = rest

-- a request is in the row of its own pairs once for each need with the key
count_own : (plan : PlanGraph) (key i : ℕ) (needs : List Need) → count_by (λ j. j == i) (of_key key (map (λ need. (key_of plan need, i)) needs)) ≡ count_by (λ need. key_of plan need == key) needs
count_own plan key i [] = refl
count_own plan key i (need ∷ needs) =
    at (key_of plan need == key) (count_own plan key i needs) ∙ sym (sum_by-cons (λ n. cond (key_of plan n == key) 1 0) need needs)
  where
    row : List ℕ
    row = of_key key (map (λ n. (key_of plan n, i)) needs)

    at : (b : Bool) → count_by (λ j. j == i) row ≡ count_by (λ n. key_of plan n == key) needs → count_by (λ j. j == i) (if b then i ∷ row else row) ≡ cond b 1 0 + count_by (λ n. key_of plan n == key) needs
    at true rest = sum_by-cons (λ j. cond (j == i) 1 0) i row ∙ rw (eq-eqb i i refl, rest) refl
    at false rest = omega (arith, rest)

-- and not in those of others
count_other : (plan : PlanGraph) (key i other : ℕ) (needs : List Need) → other ≢ i → count_by (λ j. j == i) (of_key key (map (λ need. (key_of plan need, other)) needs)) ≡ 0
count_other plan key i other [] apart = refl
count_other plan key i other (need ∷ needs) apart = at (key_of plan need == key) (count_other plan key i other needs apart)
  where
    row : List ℕ
    row = of_key key (map (λ n. (key_of plan n, other)) needs)

    at : (b : Bool) → count_by (λ j. j == i) row ≡ 0 → count_by (λ j. j == i) (if b then other ∷ row else row) ≡ 0
    at true rest = sum_by-cons (λ j. cond (j == i) 1 0) other row ∙ rw (ne_eqb other i apart, rest) refl
    at false rest = rest

-- one request more
count_next : (plan : PlanGraph) (key i n : ℕ) → count_by (λ j. j == i) (of_key key (joined_below (suc n) (need_pairs plan)))
    ≡ count_by (λ j. j == i) (of_key key (joined_below n (need_pairs plan))) + count_by (λ j. j == i) (of_key key (need_pairs plan n))
count_next plan key i n = ap (count_by (λ j. j == i)) (of_key-append key (joined_below n (need_pairs plan)) (need_pairs plan n)) ∙ sum_by-append (λ j. cond (j == i) 1 0) (of_key key (joined_below n (need_pairs plan))) (of_key key (need_pairs plan n))

count_before : (plan : PlanGraph) (key i n : ℕ) → n ≤ i → count_by (λ j. j == i) (of_key key (joined_below n (need_pairs plan))) ≡ 0
count_before plan key i zero before = refl
count_before plan key i (suc n) before = count_next plan key i n ∙ rw (count_before plan key i n (omega arith), count_other plan key i n (needs_of plan n) (λ e. omega arith)) refl

-- a request is in a row as often as it needs what has the key
count_all : (plan : PlanGraph) (key i n : ℕ) → i < n → count_by (λ j. j == i) (of_key key (joined_below n (need_pairs plan))) ≡ need_count plan key i
count_all plan key i zero within = absurd (omega arith)
count_all plan key i (suc n) within = count_next plan key i n ∙ elim (cases_lt i n) [
  | inl before ↦ rw (count_all plan key i n before, count_other plan key i n (needs_of plan n) (λ e. omega arith)) (omega arith)
  | inr last ↦
      let here : n ≡ i = omega arith in
      ap (λ m. m + count_by (λ j. j == i) (of_key key (need_pairs plan n))) (count_before plan key i n (omega arith))
      ∙ ap (λ m. 0 + count_by (λ j. j == i) (of_key key (need_pairs plan m))) here
      ∙ omega (arith, count_own plan key i (needs_of plan i))
]

-- what holds of the pairs of each request holds of all
each_joined : (P : ℕ × ℕ → Type 0) (n : ℕ) (pairs : ℕ → List (ℕ × ℕ)) → ((i : ℕ) → i < n → All P (pairs i)) → All P (joined_below n pairs)
each_joined P zero pairs each = All-nil P
each_joined P (suc n) pairs each = All-append P (joined_below n pairs) (pairs n) (each_joined P n pairs (λ i within. each i (omega arith))) (each n (omega arith))

-- the requests of the pairs are those of the row
row_within : (key n : ℕ) (ps : List (ℕ × ℕ)) → All (λ (p : ℕ × ℕ). p.1 < n) ps → All (λ i. i < n) (of_key key ps)
row_within key n [] each = All-nil (λ i. i < n)
row_within key n (p ∷ ps) each = at (p.0 == key) (row_within key n ps (All-tail (λ (q : ℕ × ℕ). q.1 < n) p ps each))
  where
    at : (b : Bool) → All (λ i. i < n) (of_key key ps) → All (λ i. i < n) (if b then p.1 ∷ of_key key ps else of_key key ps)
    at true rest = All-cons (λ i. i < n) p.1 (of_key key ps) (All-head (λ (q : ℕ × ℕ). q.1 < n) p ps each) rest
    at false rest = rest

-- each pair is of a request that there is
pairs_within : (plan : PlanGraph) → All (λ (p : ℕ × ℕ). p.1 < length plan.units) (all_pairs plan)
pairs_within plan = each_joined (λ p. p.1 < length plan.units) (length plan.units) (need_pairs plan) (λ i within.
    All-map (λ p. p.1 < length plan.units) (λ need. (key_of plan need, i)) (needs_of plan i) (λ k d below. within))

-- each need has a key
key_within : (plan : PlanGraph) (need : Need) → IsNeed plan need → key_of plan need < length plan.units + plan.unit_count
key_within plan (One r) known = omega arith
key_within plan (Group u) known = omega arith

-- each pair is of a key that there is
pub pairs_keyed : (plan : PlanGraph) (keys : ℕ) (ps : List (ℕ × ℕ)) → IsPlan plan → keys ≡ length plan.units + plan.unit_count → ps ≡ all_pairs plan → HaveKeys keys ps
pairs_keyed plan keys ps laws all are = λ k below. All-get_or (λ (p : ℕ × ℕ). p.0 < keys) ps k (0, 0) below (rw (are, all)
    (each_joined (λ p. p.0 < length plan.units + plan.unit_count) (length plan.units) (need_pairs plan) (λ i within.
    All-map (λ p. p.0 < length plan.units + plan.unit_count) (λ need. (key_of plan need, i)) (needs_of plan i)
    (All-weaker (IsNeed plan) (λ need. key_of plan need < length plan.units + plan.unit_count) (key_within plan) (needs_of plan i) (known_needs plan i laws within)))))

-- the rows of all pairs are those of the dependents
rows_are : (plan : PlanGraph) (rows : List (List ℕ)) → length rows ≡ length plan.units + plan.unit_count → ((key : ℕ) → key < length rows → get_or rows key [] ≡ of_key key (all_pairs plan)) → AreDependents plan rows
rows_are plan rows each are = record {
  each = each;
  within = λ key below. subst (All (λ i. i < length plan.units)) (sym (are key below)) (row_within key (length plan.units) (all_pairs plan) (pairs_within plan));
  exact = λ key i below inside. ap (count_by (λ j. j == i)) (are key below) ∙ count_all plan key i (length plan.units) inside;
}

pub dependents_are : {E : Type 0} (plan : PlanGraph) (keys : ℕ) (ps : List (ℕ × ℕ)) (result : Result (List (List ℕ)) E) → keys ≡ length plan.units + plan.unit_count → ps ≡ all_pairs plan
    → IfOk result (λ rows. length rows ≡ keys) → IfOk result (λ rows. (key : ℕ) → key < keys → get_or rows key [] ≡ of_key key ps) → IfOk result (AreDependents plan)
dependents_are plan keys ps (Ok rows) all are each of = rows_are plan rows (each ∙ all) (λ key below. of key (subst (λ n. key < n) each below) ∙ ap (of_key key) are)
dependents_are plan keys ps (Err e) all are each of = _
