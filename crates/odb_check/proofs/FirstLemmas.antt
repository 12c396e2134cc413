-- What the first number that passes is, and how many pass.
use Rattle.std.proofs.Common.{◌≡◌, ◌≤◌, ◌<◌, ℕ, zero, suc, Bool, true, false, cond, Option, Some, None, refl, ap, subst, inl, inr, arith}
use Rattle.std.specs.Bool.{Decides}
use Rattle.std.proofs.lemmas.Bool.{cases_lt, cases_order}
use Rattle.std.proofs.lemmas.Bool.Decides.{not_from_Decides}
use Rattle.odb_check.specs.Firsts.{or_else, first_below, count_below}

-- P holds of b, and of no smaller number
pub record IsFirst (P : ℕ → Type 0) (b : ℕ) : Type 0 where
  pub here : P b
  pub before : (k : ℕ) → k < b → ¬ P k

-- what the first number below n may be
abbrev pub FirstCases : ℕ → (ℕ → Type 0) → Option ℕ → Type 0
FirstCases n P None = (k : ℕ) → k < n → ¬ P k
FirstCases n P (Some b) = (b < n) × IsFirst P b

-- what holds below n and at n holds below the next number
pub below_more : (n : ℕ) (P : ℕ → Type 0) → ((k : ℕ) → k < n → P k) → P n → (k : ℕ) → k < suc n → P k
below_more n P below here k h = elim (cases_lt k n) [ inl less ↦ below k less | inr more ↦ let same : n ≡ k = omega arith in subst P same here ]

one_more : (n : ℕ) (P : ℕ → Type 0) (found : Option ℕ) (v : Bool) → Decides v (P n) → FirstCases n P found → FirstCases (suc n) P (or_else found (cond v (Some n) None))
one_more n P None true decides below = (omega arith, record { here = decides.0 refl; before = below })
one_more n P None false decides below = below_more n (λ k. ¬ P k) below (not_from_Decides false decides refl)
one_more n P (Some b) v decides first = (omega (arith, first.0), first.1)

pub first_cases : (n : ℕ) (test : ℕ → Bool) (P : ℕ → Type 0) → ((k : ℕ) → Decides (test k) (P k)) → FirstCases n P (first_below n test)
first_cases zero test P decides = λ k h. absurd (omega arith)
first_cases (suc n) test P decides = one_more n P (first_below n test) (test n) (decides n) (first_cases n test P decides)

-- the first number is one
pub first_alone : (P : ℕ → Type 0) (b c : ℕ) → IsFirst P b → IsFirst P c → b ≡ c
first_alone P b c first other =
    elim (cases_order b c) [
      | inl same ↦ same
      | inr (inl less) ↦ absurd (other.before b less first.here)
      | inr (inr more) ↦ absurd (first.before c more other.here)
    ]

pub found_first : (n : ℕ) (P : ℕ → Type 0) (b : ℕ) → b < n → IsFirst P b → (found : Option ℕ) → FirstCases n P found → found ≡ Some b
found_first n P b within first None below = absurd (below b within first.here)
found_first n P b within first (Some c) other = ap Some (first_alone P c b other.1 first)

pub found_none : (n : ℕ) (P : ℕ → Type 0) → ((k : ℕ) → k < n → ¬ P k) → (found : Option ℕ) → FirstCases n P found → found ≡ None
found_none n P never None below = refl
found_none n P never (Some b) first = absurd (never b first.0 first.1.here)

-- at most all numbers pass
pub count_few : (n : ℕ) (test : ℕ → Bool) → count_below n test ≤ n
count_few zero test = omega arith
count_few (suc n) test = let few : count_below n test ≤ n = count_few n test in elim (test n) as (λ v. cond v (suc (count_below n test)) (count_below n test) ≤ suc n) [ true ↦ omega arith | false ↦ omega arith ]

-- a count does not fall
pub count_more : (test : ℕ → Bool) (m n : ℕ) → m ≤ n → count_below m test ≤ count_below n test
count_more test m zero h = let same : zero ≡ m = omega arith in subst (λ j. count_below j test ≤ 0) same (omega arith)
count_more test m (suc n) h =
    elim (cases_lt n m) [
      | inl more ↦ let same : suc n ≡ m = omega arith in subst (λ j. count_below j test ≤ count_below (suc n) test) same (omega arith)
      | inr less ↦
          let before : count_below m test ≤ count_below n test = count_more test m n less in
          elim (test n) as (λ v. count_below m test ≤ cond v (suc (count_below n test)) (count_below n test)) [ true ↦ omega arith | false ↦ before ]
    ]

-- a number that passes is counted after it
pub count_less : (test : ℕ → Bool) (b n : ℕ) → test b ≡ true → b < n → count_below b test < count_below n test
count_less test b n passes h =
    let step : count_below (suc b) test ≡ suc (count_below b test) = rw passes refl in
    omega (arith, count_more test (suc b) n (omega arith))

-- two numbers that pass and have as many before them are one
pub count_same : (test : ℕ → Bool) (b c : ℕ) → test b ≡ true → test c ≡ true → count_below b test ≡ count_below c test → b ≡ c
count_same test b c passes other e =
    elim (cases_order b c) [
      | inl same ↦ same
      | inr (inl less) ↦ absurd (omega (arith, count_less test b c passes less))
      | inr (inr more) ↦ absurd (omega (arith, count_less test c b other more))
    ]
