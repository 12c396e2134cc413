-- Lists that are made from the numbers below a bound, and a list with one number set.
use Rattle.std.proofs.Common.{◌≡◌, ◌≢◌, ◌<◌, ◌⊎◌, ℕ, zero, suc, List, [], ◌∷◌, refl, sym, ap, ◌∙◌, inl, inr, arith, length, get_or, get_or-set_other, length-append}
use Rattle.std.specs.Prelude.{slice_index, slice_set}
use Rattle.std.proofs.lemmas.Bool.{cases_eq, cases_lt}
use Rattle.std.proofs.lemmas.Grind.{get_or-set_at}
use Rattle.std.proofs.lemmas.List.{get_or_append_left, get_or_push}
use Rattle.odb_check.specs.Firsts.{list_below}

pub length-list_below : {X : Type 0} (n : ℕ) (value : ℕ → X) → length (list_below n value) ≡ n
length-list_below zero value = refl
length-list_below (suc n) value = omega (arith, length-append (list_below n value) (value n ∷ []), length-list_below n value)

pub get_or-list_below : {X : Type 0} (n : ℕ) (value : ℕ → X) (i : ℕ) (d : X) → i < n → get_or (list_below n value) i d ≡ value i
get_or-list_below zero value i d h = absurd (omega arith)
get_or-list_below (suc n) value i d h =
    elim (cases_lt i n) [
      | inl less ↦ get_or_append_left (list_below n value) (value n ∷ []) d i (omega (arith, length-list_below n value)) ∙ get_or-list_below n value i d less
      | inr more ↦ let same : n ≡ i = omega arith in get_or_push (list_below n value) (value n) d i (omega (arith, length-list_below n value)) ∙ ap value same
    ]

-- the number at q, after that at p was set
pub set_cases : (xs : List ℕ) (p x q : ℕ) → p < length xs → ((p ≡ q) × (slice_index (slice_set xs p x) q ≡ x)) ⊎ ((p ≢ q) × (slice_index (slice_set xs p x) q ≡ slice_index xs q))
set_cases xs p x q within =
    elim (cases_eq p q) [
      | inl same ↦ inl (same, get_or-set_at xs p q x 0 (sym same) within)
      | inr other ↦ let not_same : q ≢ p = λ e. other (sym e) in inr (other, rw get_or-set_other refl)
    ]
