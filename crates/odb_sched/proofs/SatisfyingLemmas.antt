-- Counts that fall by one for each entry of a list.
use Rattle.std.proofs.Common.{◌≡◌, ℕ, ◌<◌, ◌≤◌, ◌+◌, ◌-◌, ◌==◌, refl, sym, subst, arith, cond, eq-eqb, ne_eqb, List, length, get_or, set, take, inl, inr, count_by, get_or-set_same, get_or-set_other}
use Rattle.std.proofs.lemmas.Bool.{cases_eq}
use Rattle.std.proofs.lemmas.List.Sums.{sum_by_more_le, count_by_more_yes, count_by_more_no}

-- an entry that was not taken off yet is still counted
pub some_left : (before now k : ℕ) (list : List ℕ) → k < length list → now + count_by (λ j. j == get_or list k 0) (take k list) ≡ before → count_by (λ j. j == get_or list k 0) list ≤ before → 0 < now
some_left before now k list within fallen enough =
    let more : count_by (λ j. j == get_or list k 0) (take k list) + 1 ≤ count_by (λ j. j == get_or list k 0) list =
    subst (λ b. count_by (λ j. j == get_or list k 0) (take k list) + cond b 1 0 ≤ count_by (λ j. j == get_or list k 0) list) (eq-eqb (get_or list k 0) (get_or list k 0) refl) (sum_by_more_le (λ j. cond (j == get_or list k 0) 1 0) list k 0 within)
    in omega arith

-- one entry more is taken off
pub fallen_more : (before k i : ℕ) (now list : List ℕ) → k < length list → get_or list k 0 < length now → 0 < get_or now (get_or list k 0) 0 → get_or now i 0 + count_by (λ j. j == i) (take k list) ≡ before
    → get_or (set now (get_or list k 0) (get_or now (get_or list k 0) 0 - 1)) i 0 + count_by (λ j. j == i) (take (k + 1) list) ≡ before
fallen_more before k i now list within room some fallen = elim (cases_eq (get_or list k 0) i) [
  | inl here ↦
      let least : 0 < get_or now i 0 = subst (λ e. 0 < get_or now e 0) here some in
      rw (count_by_more_yes (λ j. j == i) list k 0 within (eq-eqb _ _ here), here, get_or-set_same now i (get_or now i 0 - 1) 0 (subst (λ e. e < length now) here room)) (omega arith)
  | inr elsewhere ↦
      rw (count_by_more_no (λ j. j == i) list k 0 within (ne_eqb _ _ elsewhere), get_or-set_other now (get_or list k 0) i (get_or now (get_or list k 0) 0 - 1) 0 (λ e. elsewhere (sym e))) fallen
]
