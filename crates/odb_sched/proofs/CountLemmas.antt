-- How many numbers below a bound pass, under tests that differ at one number or at none.
use Rattle.std.proofs.Common.{◌≡◌, ◌≢◌, ℕ, zero, suc, ◌<◌, ◌+◌, refl, arith, Bool, true, false, cond, if◌then◌else◌, inl, inr}
use Rattle.std.proofs.lemmas.Bool.{cases_lt, true≢false}
use Rattle.odb_check.specs.Firsts.{count_below}

-- tests that agree below a number count alike
pub count_same : (n : ℕ) (test other : ℕ → Bool) → ((i : ℕ) → i < n → test i ≡ other i) → count_below n test ≡ count_below n other
count_same zero test other same = refl
count_same (suc n) test other same = rw (same n (omega arith), count_same n test other (λ i within. same i (omega arith))) refl

one_more : (passes : Bool) (m : ℕ) → cond passes (suc (suc m)) (suc m) ≡ suc (cond passes (suc m) m)
one_more true m = refl
one_more false m = refl

-- one number passes no longer, and the others as before
pub count_less : (n k : ℕ) (test other : ℕ → Bool) → k < n → test k ≡ true → other k ≡ false → ((i : ℕ) → i < n → i ≢ k → test i ≡ other i) → count_below n test ≡ suc (count_below n other)
count_less zero k test other within passes fails same = absurd (omega arith)
count_less (suc n) k test other within passes fails same = elim (cases_lt k n) [
  | inl before ↦ rw (same n (omega arith) (λ e. omega arith), count_less n k test other before passes fails (λ i below elsewhere. same i (omega arith) elsewhere)) (one_more (other n) (count_below n other))
  | inr last ↦
      let here : n ≡ k = omega arith in
      rw (here, passes, fails, ← here, count_same n test other (λ i below. same i (omega arith) (λ e. omega arith))) refl
]

-- none passes, so none is counted
pub count_none : (n : ℕ) (test : ℕ → Bool) → ((i : ℕ) → i < n → test i ≡ false) → count_below n test ≡ 0
count_none zero test none = refl
count_none (suc n) test none = rw (none n (omega arith)) (count_none n test (λ i below. none i (omega arith)))

-- what passes one of two tests that exclude each other
pub count_either : (n : ℕ) (test other both : ℕ → Bool) → ((i : ℕ) → i < n → other i ≡ true → test i ≡ false) → ((i : ℕ) → i < n → both i ≡ (if other i then true else test i)) → count_below n both ≡ count_below n test + count_below n other
count_either zero test other both apart are = refl
count_either (suc n) test other both apart are =
    rw (are n (omega arith), count_either n test other both (λ i within. apart i (omega arith)) (λ i within. are i (omega arith))) (at (other n) (test n) (count_below n test) (count_below n other) (apart n (omega arith)))
  where
    at : (o t : Bool) (a b : ℕ) → (o ≡ true → t ≡ false) → cond (if o then true else t) (suc (a + b)) (a + b) ≡ cond t (suc a) a + cond o (suc b) b
    at true true a b only = absurd (true≢false (only refl))
    at true false a b only = omega arith
    at false true a b only = omega arith
    at false false a b only = refl
