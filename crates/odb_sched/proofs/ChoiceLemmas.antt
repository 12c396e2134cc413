-- Positions that pass a test, as lists and as sets.
use Rattle.std.proofs.Common.{◌≡◌, ℕ, zero, suc, ◌<◌, ◌+◌, ◌==◌, ◌∙◌, ap, sym, refl, arith, Bool, true, false, ◌&&◌, ◌||◌, cond, nat_lt, nat_eq, if◌then◌else◌, eq-eqb, lt-ltb, le-ltb, ltb-true, List, [], ◌∷◌, get_or, inl, inr, count_by, All, Contains}
use Rattle.std.specs.List.{list_any}
use Rattle.std.specs.FinSet.{contains, same_set, contains-from_list_nat, nat_cmp-IsAntisymmetric}
use Rattle.std.specs.Cmp.{nat_cmp_total}
use Rattle.std.proofs.lemmas.Bool.{cases_eq, cases_lt, ne_eqb, and_parts}
use Rattle.std.proofs.lemmas.List.Folds.{list_any_at}
use Rattle.std.proofs.lemmas.List.Sums.{sum_by-cons}
use Rattle.std.proofs.lemmas.List.Elements.{Contains-get_or}
use Rattle.odb_dense.specs.Lists.{ListsOnce}
use Rattle.odb_check.specs.Firsts.{passing_below}
use Rattle.odb_sched.specs.run.Choosing.{positions_of}

-- some element passes exactly when more than none is counted
any_counted : (test : ℕ → Bool) (xs : List ℕ) → list_any test xs ≡ nat_lt 0 (count_by test xs)
any_counted test [] = refl
any_counted test (x ∷ xs) = rw (sum_by-cons (λ y. cond (test y) 1 0) x xs) (at (test x) (any_counted test xs))
  where
    at : (b : Bool) → list_any test xs ≡ nat_lt 0 (count_by test xs) → (b || list_any test xs) ≡ nat_lt 0 (cond b 1 0 + count_by test xs)
    at true rest = sym (lt-ltb 0 (1 + count_by test xs) (omega arith))
    at false rest = rest ∙ ap (nat_lt 0) (let same : count_by test xs ≡ 0 + count_by test xs = omega arith in same)

one_or_none : (b : Bool) → nat_lt 0 (if b then 1 else 0) ≡ b
one_or_none true = refl
one_or_none false = refl

-- a list of the numbers that pass has just those
pub contains-listed : (n : ℕ) (test : ℕ → Bool) (xs : List ℕ) (i : ℕ) → ListsOnce n test xs → contains (positions_of xs) i ≡ (nat_lt i n && test i)
contains-listed n test xs i listed = contains-from_list_nat xs i ∙ any_counted (λ x. x == i) xs ∙ ap (nat_lt 0) (listed i) ∙ one_or_none (nat_lt i n && test i)

more : (n : ℕ) (test : ℕ → Bool) → ((j : ℕ) → list_any (λ x. nat_eq x j) (passing_below n test) ≡ (nat_lt j n && test j)) → (i : ℕ) → list_any (λ x. nat_eq x i) (passing_below (suc n) test) ≡ (nat_lt i (suc n) && test i)
more n test rest i = elim (cases_eq n i) [
  | inl here ↦ rw (← here, lt-ltb n (suc n) (omega arith)) (at_here (test n) refl)
  | inr elsewhere ↦ at_other elsewhere (test n) refl ∙ rest i ∙ ap (λ b. b && test i) (elim (cases_lt i n) [
    | inl before ↦ rw (lt-ltb i n before, lt-ltb i (suc n) (omega arith)) refl
    | inr later ↦ rw (le-ltb i n later, le-ltb i (suc n) (omega arith)) refl
  ])
]
  where
    at_here : (b : Bool) → test n ≡ b → list_any (λ x. nat_eq x n) (if b then n ∷ passing_below n test else passing_below n test) ≡ b
    at_here true e = rw (eq-eqb n n refl) refl
    at_here false e = rest n ∙ ap (λ b. b && test n) (le-ltb n n (omega arith))

    at_other : (n ≡ i → ⊥) → (b : Bool) → test n ≡ b → list_any (λ x. nat_eq x i) (if b then n ∷ passing_below n test else passing_below n test) ≡ list_any (λ x. nat_eq x i) (passing_below n test)
    at_other elsewhere true e = rw (ne_eqb n i elsewhere) refl
    at_other elsewhere false e = refl

-- the numbers below n that pass are those that pass
pub contains-passing : (n : ℕ) (test : ℕ → Bool) (i : ℕ) → list_any (λ x. nat_eq x i) (passing_below n test) ≡ (nat_lt i n && test i)
contains-passing zero test i = rw (le-ltb i 0 (omega arith)) refl
contains-passing (suc n) test i = more n test (contains-passing n test) i

-- the set of a list does not depend on its order
pub positions-listed : (n : ℕ) (test : ℕ → Bool) (xs : List ℕ) → ListsOnce n test xs → positions_of xs ≡ positions_of (passing_below n test)
positions-listed n test xs listed = same_set nat_cmp_total nat_cmp-IsAntisymmetric (positions_of xs) (positions_of (passing_below n test))
    (λ i. contains-listed n test xs i listed ∙ sym (contains-from_list_nat (passing_below n test) i ∙ contains-passing n test i))

-- an element of a list of the numbers that pass does pass
pub listed-in : (n : ℕ) (test : ℕ → Bool) (xs : List ℕ) (i : ℕ) → ListsOnce n test xs → Contains xs i → (i < n) × (test i ≡ true)
listed-in n test xs i listed (k, within, at) =
    let among : contains (positions_of xs) i ≡ true = contains-from_list_nat xs i ∙ list_any_at (λ x. nat_eq x i) xs k i within (eq-eqb (get_or xs k i) i at) in
    let parts = and_parts (nat_lt i n) (test i) (sym (contains-listed n test xs i listed) ∙ among) in
    (ltb-true _ _ parts.0, parts.1)

pub listed_within : (n : ℕ) (test : ℕ → Bool) (xs : List ℕ) → ListsOnce n test xs → All (λ i. i < n) xs
listed_within n test xs listed k d within = (listed-in n test xs (get_or xs k d) listed (Contains-get_or xs k d within)).0
