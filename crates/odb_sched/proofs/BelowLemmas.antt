-- Tests of the numbers below a number, and of the elements of a list, against 'there is one' and 'for each'.
use Rattle.std.proofs.Common.{◌≡◌, ℕ, zero, suc, ◌<◌, ◌∙◌, ap, sym, refl, arith, Bool, true, false, ◌&&◌, not, cond, List, [], ◌∷◌, get_or, inl, inr, subst, Contains, Some, None, is_none, All, Decides, find, if◌then◌else◌}
use Rattle.std.specs.List.{list_any, list_all}
use Rattle.std.proofs.lemmas.Bool.{cases_Bool, cases_lt, true≢false}
use Rattle.std.proofs.lemmas.Bool.Decides.{Decides-below_or, Decides-below_and}
use Rattle.std.proofs.lemmas.List.Folds.{list_any_at, Any-from_list_any}
use Rattle.std.proofs.lemmas.List.Sums.{list_all-from_AllPass, AllPass-from_list_all}
use Rattle.std.proofs.lemmas.List.Elements.{All-contains, Contains-get_or}
use Rattle.odb_check.specs.Firsts.{any_below, all_below, first_below, passing_below}

pub any_below-Decides : (n : ℕ) (test : ℕ → Bool) → Decides (any_below n test) ((k : ℕ) × (k < n) × (test k ≡ true))
any_below-Decides n test = Decides-below_or test (λ k. test k ≡ true) (λ m. any_below m test) (λ k. ((λ e. e), (λ e. e))) refl (λ _. refl) n

pub all_below-Decides : (n : ℕ) (test : ℕ → Bool) → Decides (all_below n test) ((k : ℕ) → k < n → test k ≡ true)
all_below-Decides n test = Decides-below_and test (λ k. test k ≡ true) (λ m. all_below m test) (λ k. ((λ e. e), (λ e. e))) refl (λ _. refl) n

-- the first number below n that does not pass
pub record IsFirstFalse (n : ℕ) (test : ℕ → Bool) (k : ℕ) : Type 0 where
  pub below : k < n
  pub fails : test k ≡ false
  pub before : (j : ℕ) → j < k → test j ≡ true

and_true : (a b : Bool) → b ≡ true → (a && b) ≡ false → a ≡ false
and_true true b h e = sym h ∙ e
and_true false b h e = refl

pub first_false : (n : ℕ) (test : ℕ → Bool) → all_below n test ≡ false → (k : ℕ) × IsFirstFalse n test k
first_false zero test e = absurd (true≢false e)
first_false (suc n) test e = elim (cases_Bool (all_below n test)) [
  | inl all ↦ (n, record { below = omega arith; fails = and_true (test n) (all_below n test) all e; before = (all_below-Decides n test).0 all })
  | inr none ↦ further (first_false n test none)
]
  where
    further : (k : ℕ) × IsFirstFalse n test k → (k : ℕ) × IsFirstFalse (suc n) test k
    further (k, first) = let below : k < n = first.below in (k, record { below = omega arith; fails = first.fails; before = first.before })

pub list_any-from : {X : Type 0} (test : X → Bool) (xs : List X) (x : X) → Contains xs x → test x ≡ true → list_any test xs ≡ true
list_any-from test xs x (k, within, at) e = list_any_at test xs k x within (ap test at ∙ e)

pub list_any-some : {X : Type 0} (test : X → Bool) (xs : List X) → list_any test xs ≡ true → (x : X) × Contains xs x × (test x ≡ true)
list_any-some test xs e = let (k, x, within, at, passes) = Any-from_list_any test xs e in (x, (k, within, at), passes)

pub list_all-from : {X : Type 0} (test : X → Bool) (xs : List X) → ((x : X) → Contains xs x → test x ≡ true) → list_all test xs ≡ true
list_all-from test xs each = list_all-from_AllPass test xs (λ k d within. each (get_or xs k d) (Contains-get_or xs k d within))

pub list_all-each : {X : Type 0} (test : X → Bool) (xs : List X) (x : X) → list_all test xs ≡ true → Contains xs x → test x ≡ true
list_all-each test xs x e has = All-contains (λ y. test y ≡ true) xs x (AllPass-from_list_all test xs e) has

-- there is no first that does not pass exactly when all pass
pub find-all : {X : Type 0} (test : X → Bool) (xs : List X) → is_none (find (λ x. not (test x)) xs) ≡ list_all test xs
find-all test [] = refl
find-all test (x ∷ xs) = at (test x) (find-all test xs)
  where
    at : (b : Bool) → is_none (find (λ y. not (test y)) xs) ≡ list_all test xs → is_none (cond (not b) (Some x) (find (λ y. not (test y)) xs)) ≡ (b && list_all test xs)
    at true rest = rest
    at false rest = refl

-- the numbers below n that pass are below n
pub passing_below-within : (n : ℕ) (test : ℕ → Bool) → All (λ i. i < n) (passing_below n test)
passing_below-within zero test = λ k d within. absurd (omega arith)
passing_below-within (suc n) test = at (test n) (passing_below-within n test)
  where
    at : (b : Bool) → All (λ i. i < n) (passing_below n test) → All (λ i. i < suc n) (if b then n ∷ passing_below n test else passing_below n test)
    at true rest zero d within = omega arith
    at true rest (suc k) d within = let below : get_or (passing_below n test) k d < n = rest k d (omega arith) in omega arith
    at false rest k d within = let below : get_or (passing_below n test) k d < n = rest k d within in omega arith

-- if no number below n passes, there is no first
pub none_passes : (n : ℕ) (test : ℕ → Bool) → ((k : ℕ) → k < n → test k ≡ false) → first_below n test ≡ None
none_passes zero test fails = refl
none_passes (suc n) test fails = rw (none_passes n test (λ k below. fails k (omega (arith, below))), fails n (omega arith)) refl

-- a number that passes is the first if none before it does
pub first_is : (n : ℕ) (test : ℕ → Bool) (b : ℕ) → b < n → test b ≡ true → ((k : ℕ) → k < b → test k ≡ false) → first_below n test ≡ Some b
first_is zero test b within passes fails = absurd (omega (arith, within))
first_is (suc n) test b within passes fails =
    elim (cases_lt b n) [
      | inl less ↦ rw (first_is n test b less passes fails) refl
      | inr more ↦
          let same : b ≡ n = omega (arith, within, more) in
          subst (λ c. first_below (suc n) test ≡ Some c) (sym same)
          (let here : test n ≡ true = subst (λ c. test c ≡ true) same passes in
          rw (none_passes n test (λ k below. fails k (omega (arith, below, same))), here) refl)
    ]
