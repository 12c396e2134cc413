-- What is counted of the units that were sent as one.
use Rattle.std.proofs.Common.{◌≡◌, ℕ, ◌<◌, ◌≤◌, ◌+◌, ◌-◌, ◌*◌, ◌∙◌, arith, List, length, get_or, set, replicate, inl, inr, All}
use Rattle.std.proofs.lemmas.Bool.{cases_lt}
use Rattle.std.proofs.lemmas.List.{set_past}
use Rattle.std.proofs.lemmas.List.Folds.{sum_by-replicate}
use Rattle.std.proofs.lemmas.List.Sums.{sum_by-set, sum_by-le, get_or-le-sum_by}
use Rattle.odb_sched.specs.run.State.{awaited_after}
use Rattle.odb_sched.specs.run.Steps.{spare_in}

-- no report is awaited, so none is spare
pub none_spare : (n : ℕ) → spare_in (replicate n 0) ≡ 0
none_spare n = let none : spare_in (replicate n 0) ≡ n * (0 - 1) = sum_by-replicate (λ k. k - 1) n 0 in none ∙ times n
  where
    times : (n : ℕ) → n * (0 - 1) ≡ 0
    times n = omega arith

-- the spare ones after a write over how many are awaited of a unit
pub spare-set : (awaited : List ℕ) (u n : ℕ) → u < length awaited → spare_in (set awaited u n) + (get_or awaited u 0 - 1) ≡ spare_in awaited + (n - 1)
spare-set awaited u n within = sum_by-set (λ k. k - 1) awaited u n 0 within

-- those of one unit are among all
pub spare_of : (awaited : List ℕ) (u : ℕ) → u < length awaited → get_or awaited u 0 - 1 ≤ spare_in awaited
spare_of awaited u within = get_or-le-sum_by (λ k. k - 1) awaited u 0 within

-- there are no more than fit
pub few_spare : (awaited : List ℕ) → length awaited ≤ 10000 → All (λ n. n ≤ 10000) awaited → spare_in awaited ≤ 100000000
few_spare awaited few small =
    let most : spare_in awaited ≤ length awaited * 10000 = sum_by-le (λ k. k - 1) 10000 awaited (λ i d within. less (get_or awaited i d) (small i d within)) in
    omega (arith, most, few)
  where
    less : (n : ℕ) → n ≤ 10000 → n - 1 ≤ 10000
    less n small = omega arith

-- a report leaves none spare where none was
pub none_spare_after : (awaited : List ℕ) (u : ℕ) → spare_in awaited ≡ 0 → spare_in (awaited_after awaited u) ≡ 0
none_spare_after awaited u none = elim (cases_lt u (length awaited)) [
  | inl within ↦
      let left : ℕ = get_or awaited u 0 in
      let after : spare_in (set awaited u (left - 1)) + (left - 1) ≡ spare_in awaited + ((left - 1) - 1) = spare-set awaited u (left - 1) within in
      omega (arith, after, none)
  | inr past ↦ rw (set_past awaited u (get_or awaited u 0 - 1) past) none
]
