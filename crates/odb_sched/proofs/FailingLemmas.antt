-- The test of a failing unit is the least relation of that name.
use Rattle.std.proofs.Common.{◌∙◌, ◌≡◌, ◌≢◌, ℕ, zero, suc, ◌<◌, ◌≤◌, refl, subst, arith, Bool, true, false, ◌&&◌, ◌||◌, not, eqb, eqb-true, eq-eqb, ne_eqb, length, inl, inr, Contains}
use Rattle.std.proofs.lemmas.Bool.{and_parts, and_from, or_cases, or_left, or_right, not_from_false, not_from_true, not-true, not-false, both_ways, false_from_ne_true, eqb-false}
use Rattle.odb_check.specs.declared.need.Need.{Need}
use Rattle.odb_check.specs.declared.need.Need.TheVariants.{One, Group}
use Rattle.odb_check.specs.PlanGraph.{PlanGraph, IsPlan, unit_of, needs_of, unit_needed}
use Rattle.odb_doc.specs.Statuses.{is_success}
use Rattle.odb_sched.specs.run.Laws.{SucceedsByMembers}
use Rattle.odb_sched.specs.run.Failing.{Fails, own, propagated, fails, fails_within, needs_failed}
use Rattle.odb_sched.proofs.BelowLemmas.{any_below-Decides, list_any-from, list_any-some}

-- what a request needs of another unit is of an earlier one
pub earlier_unit : (plan : PlanGraph) (i : ℕ) (need : Need) → IsPlan plan → i < length plan.units → Contains (needs_of plan i) need → unit_needed (unit_of plan) need ≢ unit_of plan i → unit_needed (unit_of plan) need < unit_of plan i
earlier_unit plan i (One r) laws within has other =
    let before : r < i = laws.earlier i (One r) within has in
    let ordered : unit_of plan r ≤ unit_of plan i = laws.in_order r i (omega arith) within in
    omega arith
earlier_unit plan i (Group u) laws within has other = laws.earlier i (Group u) within has

-- some need is of another unit that has failed
pub needs_failed-from : (plan : PlanGraph) (failed : ℕ → Bool) (i : ℕ) (need : Need) → Contains (needs_of plan i) need → unit_needed (unit_of plan) need ≢ unit_of plan i → failed (unit_needed (unit_of plan) need) ≡ true → needs_failed plan failed i ≡ true
needs_failed-from plan failed i need has other e =
    list_any-from (λ n. not (eqb (unit_needed (unit_of plan) n) (unit_of plan i)) && failed (unit_needed (unit_of plan) n)) (needs_of plan i) need has
    (and_from _ _ (not_from_false _ (ne_eqb (unit_needed (unit_of plan) need) (unit_of plan i) other)) e)

pub needs_failed-some : (plan : PlanGraph) (failed : ℕ → Bool) (i : ℕ) → needs_failed plan failed i ≡ true → (need : Need) × Contains (needs_of plan i) need × (unit_needed (unit_of plan) need ≢ unit_of plan i) × (failed (unit_needed (unit_of plan) need) ≡ true)
needs_failed-some plan failed i e =
    let (need, has, both) = list_any-some (λ n. not (eqb (unit_needed (unit_of plan) n) (unit_of plan i)) && failed (unit_needed (unit_of plan) n)) (needs_of plan i) e in
    let parts = and_parts (not (eqb (unit_needed (unit_of plan) need) (unit_of plan i))) (failed (unit_needed (unit_of plan) need)) both in
    (need, has, eqb-false _ _ (not-true _ parts.0), parts.1)

pub Fails-from_fails_within : (plan : PlanGraph) (bad : ℕ → Bool) (rounds u : ℕ) → fails_within plan bad rounds u ≡ true → Fails plan bad u
Fails-from_fails_within plan bad zero u e = absurd (both_ways false refl e)
Fails-from_fails_within plan bad (suc rounds) u e = whole ((any_below-Decides (length plan.units) (λ i. eqb (unit_of plan i) u && (bad i || needs_failed plan (fails_within plan bad rounds) i))).0 e) (Fails-from_fails_within plan bad rounds)
  where
    whole : (i : ℕ) × (i < length plan.units) × ((eqb (unit_of plan i) u && (bad i || needs_failed plan (fails_within plan bad rounds) i)) ≡ true) → ((v : ℕ) → fails_within plan bad rounds v ≡ true → Fails plan bad v) → Fails plan bad u
    whole (i, within, both) fewer =
        let parts = and_parts (eqb (unit_of plan i) u) (bad i || needs_failed plan (fails_within plan bad rounds) i) both in
        let here : unit_of plan i ≡ u = eqb-true _ _ parts.0 in
        subst (Fails plan bad) here (elim (or_cases (bad i) (needs_failed plan (fails_within plan bad rounds) i) parts.1) [
          | inl is_bad ↦ own i within is_bad
          | inr needs ↦ let (need, has, other, failed) = needs_failed-some plan (fails_within plan bad rounds) i needs in propagated i need within has other (fewer (unit_needed (unit_of plan) need) failed)
        ])

fails_within-at : (plan : PlanGraph) (bad : ℕ → Bool) (rounds i : ℕ) → i < length plan.units → (bad i || needs_failed plan (fails_within plan bad rounds) i) ≡ true → fails_within plan bad (suc rounds) (unit_of plan i) ≡ true
fails_within-at plan bad rounds i within e = (any_below-Decides (length plan.units) (λ j. eqb (unit_of plan j) (unit_of plan i) && (bad j || needs_failed plan (fails_within plan bad rounds) j))).1 (i, within, and_from _ _ (eq-eqb (unit_of plan i) (unit_of plan i) refl) e)

pub fails_within-from_Fails : (plan : PlanGraph) (bad : ℕ → Bool) (u : ℕ) → IsPlan plan → Fails plan bad u → (rounds : ℕ) → u < rounds → fails_within plan bad rounds u ≡ true
fails_within-from_Fails plan bad _ laws (own i within is_bad) zero below = absurd (omega arith)
fails_within-from_Fails plan bad _ laws (own i within is_bad) (suc rounds) below = fails_within-at plan bad rounds i within (or_left _ _ is_bad)
fails_within-from_Fails plan bad _ laws (propagated i need within has other failing) zero below = absurd (omega arith)
fails_within-from_Fails plan bad _ laws (propagated i need within has other failing) (suc rounds) below =
    let earlier : unit_needed (unit_of plan) need < unit_of plan i = earlier_unit plan i need laws within has other in
    fails_within-at plan bad rounds i within (or_right _ _ (needs_failed-from plan (fails_within plan bad rounds) i need has other (fails_within-from_Fails plan bad (unit_needed (unit_of plan) need) laws failing rounds (omega arith))))

Fails-counted : (plan : PlanGraph) (bad : ℕ → Bool) (u : ℕ) → IsPlan plan → Fails plan bad u → u < plan.unit_count
Fails-counted plan bad _ laws (own i within is_bad) = laws.counted i within
Fails-counted plan bad _ laws (propagated i need within has other failing) = laws.counted i within

pub Fails-from_fails : (plan : PlanGraph) (bad : ℕ → Bool) (u : ℕ) → fails plan bad u ≡ true → Fails plan bad u
Fails-from_fails plan bad u e = Fails-from_fails_within plan bad plan.unit_count u e

pub fails-from_Fails : (plan : PlanGraph) (bad : ℕ → Bool) (u : ℕ) → IsPlan plan → Fails plan bad u → fails plan bad u ≡ true
fails-from_Fails plan bad u laws failing = fails_within-from_Fails plan bad u laws failing plan.unit_count (Fails-counted plan bad u laws failing)

-- if the unit of each bad request fails under another test, so does each failing unit
pub Fails-as : (plan : PlanGraph) (bad other_bad : ℕ → Bool) (u : ℕ) → ((i : ℕ) → i < length plan.units → bad i ≡ true → Fails plan other_bad (unit_of plan i)) → Fails plan bad u → Fails plan other_bad u
Fails-as plan bad other_bad _ each (own i within is_bad) = each i within is_bad
Fails-as plan bad other_bad _ each (propagated i need within has other failing) = propagated i need within has other (Fails-as plan bad other_bad (unit_needed (unit_of plan) need) each failing)

-- no unit fails of which each member is good and needs other units only that do not fail
pub unless_good : (plan : PlanGraph) (bad : ℕ → Bool) (u : ℕ) → Fails plan bad u
    → ((i : ℕ) → i < length plan.units → unit_of plan i ≡ u → (bad i ≡ false) × ((need : Need) → Contains (needs_of plan i) need → unit_needed (unit_of plan) need ≢ u → fails plan bad (unit_needed (unit_of plan) need) ≡ false))
    → IsPlan plan → ⊥
unless_good plan bad _ (own i within is_bad) each laws = both_ways _ (each i within refl).0 is_bad
unless_good plan bad _ (propagated i need within has other failing) each laws = both_ways _ ((each i within refl).1 need has other) (fails-from_Fails plan bad (unit_needed (unit_of plan) need) laws failing)

pub succeeds_by_members : (plan : PlanGraph) (statuses : ℕ → ℕ) (u : ℕ) → IsPlan plan → SucceedsByMembers plan statuses u
succeeds_by_members plan statuses u laws = (
  (λ good i within here. (
    not-false _ (false_from_ne_true _ (λ is_bad. both_ways _ (not-true _ good) (subst (λ v. fails plan bad v ≡ true) here (fails-from_Fails plan bad (unit_of plan i) laws (own i within is_bad))))),
    (λ need has other. not_from_false _ (false_from_ne_true _ (λ failing. both_ways _ (not-true _ good)
        (subst (λ v. fails plan bad v ≡ true) here (fails-from_Fails plan bad (unit_of plan i) laws
        (propagated i need within has (λ same. other (same ∙ here)) (Fails-from_fails plan bad (unit_needed (unit_of plan) need) failing))))))),
  )),
  (λ each. not_from_false _ (false_from_ne_true _ (λ failing. unless_good plan bad u (Fails-from_fails plan bad u failing)
      (λ i within here. let (good, needs) = each i within here in (not_from_true _ good, (λ need has other. not-true _ (needs need has other)))) laws))),
)
  where
    bad : ℕ → Bool
    bad = λ i. not (is_success (statuses i))
