-- How many pairs have a key, and how many a lower one.
use Rattle.std.proofs.Common.{◌≡◌, ◌≢◌, ℕ, ◌≤◌, ◌+◌, ◌==◌, ◌∙◌, ap, refl, arith, Bool, true, false, cond, eqb, ltb, List, [], ◌∷◌, ◌++◌, length, take, nat_lt, if◌then◌else◌}
use Rattle.std.proofs.lemmas.Bool.{cond-true, cond-false, eq-eqb, ne_eqb, le-ltb}
use Rattle.std.proofs.lemmas.Bool.Decides.{nat_tests}
use Rattle.std.proofs.lemmas.List.{append-nil}
use Rattle.std.proofs.lemmas.List.Sums.{sum_by-cons, sum_by-le-sum_by, sum_by-take-le, count_by-le-length}
use Rattle.std.proofs.lemmas.List.Recursion.{is_count_by}
use Rattle.odb_dense.specs.ByKey.{of_key}
use Rattle.odb_dense.specs.Starts.{at_key, below_key}
use Rattle.odb_dense.proofs.CountLemmas.{count_none}

-- a key has as many numbers as there are pairs with it
pub length-of_key : (k : ℕ) (ps : List (ℕ × ℕ)) → length (of_key k ps) ≡ at_key k ps
length-of_key k ps = is_count_by (λ qs. length (of_key k qs)) (λ (p : ℕ × ℕ). p.0 == k) refl (λ p qs. by (p.0 == k) p qs) ps
  where
    by : (b : Bool) (p : ℕ × ℕ) (qs : List (ℕ × ℕ)) → length (if b then p.1 ∷ of_key k qs else of_key k qs) ≡ cond b (1 + length (of_key k qs)) (length (of_key k qs))
    by true p qs = omega arith
    by false p qs = refl

-- one pair more
pub of_key_push : (k : ℕ) (ps : List (ℕ × ℕ)) (p : ℕ × ℕ) → of_key k (ps ++ p ∷ []) ≡ of_key k ps ++ of_key k (p ∷ [])
of_key_push k [] p = refl
of_key_push k (q ∷ ps) p = by (q.0 == k) (of_key_push k ps p)
  where
    by : (b : Bool) → of_key k (ps ++ p ∷ []) ≡ of_key k ps ++ of_key k (p ∷ []) → (if b then q.1 ∷ of_key k (ps ++ p ∷ []) else of_key k (ps ++ p ∷ [])) ≡ (if b then q.1 ∷ of_key k ps else of_key k ps) ++ of_key k (p ∷ [])
    by true rest = ap (λ (xs : List ℕ). q.1 ∷ xs) rest
    by false rest = rest

pub of_key_yes : (k : ℕ) (ps : List (ℕ × ℕ)) (p : ℕ × ℕ) → p.0 ≡ k → of_key k (ps ++ p ∷ []) ≡ of_key k ps ++ p.1 ∷ []
of_key_yes k ps p e = of_key_push k ps p ∙ ap (λ (xs : List ℕ). of_key k ps ++ xs) (cond-true (p.0 == k) (p.1 ∷ []) [] (eq-eqb p.0 k e))

pub of_key_no : (k : ℕ) (ps : List (ℕ × ℕ)) (p : ℕ × ℕ) → p.0 ≢ k → of_key k (ps ++ p ∷ []) ≡ of_key k ps
of_key_no k ps p e = of_key_push k ps p ∙ (ap (λ (xs : List ℕ). of_key k ps ++ xs) (cond-false (p.0 == k) (p.1 ∷ []) [] (ne_eqb p.0 k e)) ∙ append-nil (of_key k ps))

one_next : (n k : ℕ) → cond {A = ℕ} (ltb n (k + 1)) 1 0 ≡ cond {A = ℕ} (ltb n k) 1 0 + cond {A = ℕ} (eqb n k) 1 0
one_next n k = grind (arith, nat_tests)

fewer : (n j k : ℕ) → j ≤ k → cond {A = ℕ} (ltb n j) 1 0 ≤ cond {A = ℕ} (ltb n k) 1 0
fewer n j k le = grind (arith, nat_tests)

-- a key on, there are as many more as have the key
pub below_key_next : (k : ℕ) (ps : List (ℕ × ℕ)) → below_key (k + 1) ps ≡ below_key k ps + at_key k ps
below_key_next k [] = refl
below_key_next k (p ∷ ps) =
    let rest : below_key (k + 1) ps ≡ below_key k ps + at_key k ps = below_key_next k ps in
    let next : below_key (k + 1) (p ∷ ps) ≡ cond {A = ℕ} (ltb p.0 (k + 1)) 1 0 + below_key (k + 1) ps = sum_by-cons (λ (q : ℕ × ℕ). cond (nat_lt q.0 (k + 1)) 1 0) p ps in
    let lower : below_key k (p ∷ ps) ≡ cond {A = ℕ} (ltb p.0 k) 1 0 + below_key k ps = sum_by-cons (λ (q : ℕ × ℕ). cond (nat_lt q.0 k) 1 0) p ps in
    let same : at_key k (p ∷ ps) ≡ cond {A = ℕ} (eqb p.0 k) 1 0 + at_key k ps = sum_by-cons (λ (q : ℕ × ℕ). cond (q.0 == k) 1 0) p ps in
    let one : cond {A = ℕ} (ltb p.0 (k + 1)) 1 0 ≡ cond {A = ℕ} (ltb p.0 k) 1 0 + cond {A = ℕ} (eqb p.0 k) 1 0 = one_next p.0 k in
    omega arith

-- a higher key has no fewer below it
pub below_key_le : (j k : ℕ) (ps : List (ℕ × ℕ)) → j ≤ k → below_key j ps ≤ below_key k ps
below_key_le j k ps le = sum_by-le-sum_by (λ (p : ℕ × ℕ). cond (nat_lt p.0 j) 1 0) (λ (p : ℕ × ℕ). cond (nat_lt p.0 k) 1 0) ps (λ p. fewer p.0 j k le)

-- no key is below the first
pub below_key_first : (ps : List (ℕ × ℕ)) → below_key 0 ps ≡ 0
below_key_first ps = count_none (λ (p : ℕ × ℕ). nat_lt p.0 0) ps (λ k d within. le-ltb _ 0 (omega arith))

-- at most all pairs have a lower key, and at most all have this one or a lower one
pub below_key_most : (k : ℕ) (ps : List (ℕ × ℕ)) → below_key k ps ≤ length ps
below_key_most k ps = count_by-le-length (λ (p : ℕ × ℕ). nat_lt p.0 k) ps

pub at_key_most : (k : ℕ) (ps : List (ℕ × ℕ)) → at_key k ps ≤ length ps
at_key_most k ps = count_by-le-length (λ (p : ℕ × ℕ). p.0 == k) ps

-- among the first pairs there are no more than among all
pub at_key-take : (k n : ℕ) (ps : List (ℕ × ℕ)) → at_key k (take n ps) ≤ at_key k ps
at_key-take k n ps = sum_by-take-le (λ (p : ℕ × ℕ). cond (p.0 == k) 1 0) ps n
