-- What is counted of units, before any event, after a start and after a report, and which unit may begin by it.
use Rattle.std.proofs.Math.Path.{fun_ext}
use Rattle.std.proofs.Common.{◌≡◌, ◌≢◌, ℕ, zero, suc, ◌<◌, ◌+◌, ◌-◌, ◌==◌, ◌∙◌, sym, ap, refl, subst, arith, Bool, true, false, not, cond, ◌&&◌, ◌||◌, nat_lt, lt-ltb, le-ltb, eq-eqb, eqb-true, ne_eqb, List, [], ◌∷◌, length, length-set, get_or, set, replicate, inl, inr, All, Contains, count_by, get_or-set_same, get_or-set_other, Option, Some, None, IfSome}
use Rattle.std.specs.List.{list_all}
use Rattle.std.proofs.lemmas.Bool.{cases_eq, cases_lt, both_ways, or_left, or_right, or_cases, and_parts, and_from, and_right, not-true, not-false, not_from_false, false_from_ne_true, true≢false}
use Rattle.std.proofs.lemmas.List.{get_or-replicate}
use Rattle.std.proofs.lemmas.List.Sums.{sum_by-cons}
use Rattle.std.proofs.lemmas.List.Elements.{Contains-get_or}
use Rattle.odb_check.specs.declared.need.Need.{Need}
use Rattle.odb_check.specs.declared.need.Need.TheVariants.{One, Group}
use Rattle.odb_check.specs.Firsts.{any_below, first_below}
use Rattle.odb_check.specs.PlanGraph.{PlanGraph, IsPlan, unit_of, needs_of, unit_needed}
use Rattle.odb_sched.specs.declared.counts.Progress.{Progress}
use Rattle.odb_sched.specs.declared.openings.Openings.{Openings}
use Rattle.odb_sched.specs.declared.phase.Phase.{Phase}
use Rattle.odb_sched.specs.declared.phase.Phase.TheVariants.{Unstarted, Running}
use Rattle.odb_sched.specs.run.State.{State, is_unstarted, has_succeeded, has_failed}
use Rattle.odb_sched.specs.run.Failing.{own}
use Rattle.odb_sched.specs.run.Steps.{satisfied_in, failed_in, is_stopped, unit_failed, running_count, places}
use Rattle.odb_sched.specs.run.Units.{outer_needs, outer_satisfied, has_begun_in, may_begin}
use Rattle.odb_sched.specs.invariants.Counts.{AreCounts, AreUnmet}
use Rattle.odb_sched.specs.invariants.Kept.{IsCounted}
use Rattle.odb_sched.specs.invariants.Lanes.{AreLanes}
use Rattle.odb_sched.specs.invariants.Openings.{inner_count, waiting_below, HaveUnits, AreWaiting, AreFree, AreOpenings, is_past, is_passed, IsFirstFree}
use Rattle.odb_sched.proofs.BeginLemmas.{member_unstarted}
use Rattle.odb_sched.proofs.BelowLemmas.{any_below-Decides, all_below-Decides, none_passes, first_is, list_all-each, list_all-from}
use Rattle.odb_sched.proofs.CountLemmas.{count_same, count_less, count_none}
use Rattle.odb_sched.proofs.CountedLemmas.{none_unmet, running_is}
use Rattle.odb_sched.proofs.FailingLemmas.{Fails-from_fails, fails-from_Fails, Fails-as}
use Rattle.odb_sched.proofs.OuterLemmas.{outer-from, outer-each}
use Rattle.odb_sched.proofs.PhaseLemmas.{get_or-set_cases, get_or-replicate_Unstarted, Unstarted-from}
use Rattle.odb_sched.proofs.PropagateLemmas.{same_test}
use Rattle.odb_sched.proofs.SameLemmas.{as_before}
use Rattle.odb_sched.proofs.UnmetLemmas.{none_counted}

-- if more units are past, no more have to be free
pub free_weaker : (plan : PlanGraph) (skipped other : ℕ → Bool) (t : Openings) → ((u : ℕ) → u < plan.unit_count → skipped u ≡ true → other u ≡ true) → AreFree plan skipped t → AreFree plan other t
free_weaker plan skipped other t more are = record {
  sound = are.sound;
  among = λ u within none passed. are.among u within none (false_from_ne_true _ (λ skips. both_ways _ passed (more u within skips)));
}

-- a unit has begun if a member has started, and only then
begun-from : (plan : PlanGraph) (phases : List Phase) (i : ℕ) → i < length plan.units → is_unstarted (get_or phases i Unstarted) ≡ false → has_begun_in plan phases (unit_of plan i) ≡ true
begun-from plan phases i within begun =
    (any_below-Decides (length plan.units) (λ j. (unit_of plan j == unit_of plan i) && not (is_unstarted (get_or phases j Unstarted)))).1 (i, within, and_from _ _ (eq-eqb (unit_of plan i) (unit_of plan i) refl) (not_from_false _ begun))

-- if the same requests have started, the same units have begun
begun_same : (plan : PlanGraph) (phases other : List Phase) → ((j : ℕ) → is_unstarted (get_or phases j Unstarted) ≡ is_unstarted (get_or other j Unstarted)) → (u : ℕ) → has_begun_in plan phases u ≡ has_begun_in plan other u
begun_same plan phases other same u = ap (λ (f : ℕ → Bool). any_below (length plan.units) (λ j. (unit_of plan j == u) && not (f j))) (fun_ext same)

-- any of two tests that differ at numbers of another unit alone
any_alike : (n : ℕ) (test other : ℕ → Bool) → ((i : ℕ) → i < n → test i ≡ other i) → any_below n test ≡ any_below n other
any_alike zero test other same = refl
any_alike (suc n) test other same = rw (same n (omega arith), any_alike n test other (λ i within. same i (omega arith))) refl

-- a start begins the unit of the request, and no other
begun_started : (plan : PlanGraph) (phases : List Phase) (i u : ℕ) → i < length plan.units → length phases ≡ length plan.units → u ≢ unit_of plan i → has_begun_in plan (set phases i Running) u ≡ has_begun_in plan phases u
begun_started plan phases i u within each other = any_alike (length plan.units) _ _ (λ j inside. elim (cases_eq j i) [
  | inl here ↦ rw (here, ne_eqb (unit_of plan i) u (λ e. other (sym e))) refl
  | inr elsewhere ↦ ap (λ phase. (unit_of plan j == u) && not (is_unstarted phase)) (get_or-set_other phases i j Running Unstarted elsewhere)
])

-- if the bad requests stay bad, the failed units stay failed
failed_stays : (plan : PlanGraph) (phases other : List Phase) (u : ℕ) → IsPlan plan → ((j : ℕ) → has_failed (get_or phases j Unstarted) ≡ true → has_failed (get_or other j Unstarted) ≡ true) → failed_in plan phases u ≡ true → failed_in plan other u ≡ true
failed_stays plan phases other u laws stays failed = fails-from_Fails plan (λ j. has_failed (get_or other j Unstarted)) u laws
    (Fails-as plan (λ j. has_failed (get_or phases j Unstarted)) (λ j. has_failed (get_or other j Unstarted)) u (λ i within bad. own i within (stays i bad)) (Fails-from_fails plan (λ j. has_failed (get_or phases j Unstarted)) u failed))

-- a unit that is past stays past
past_stays : (plan : PlanGraph) (phases other : List Phase) (u : ℕ) → IsPlan plan → (has_begun_in plan phases u ≡ true → has_begun_in plan other u ≡ true) → ((j : ℕ) → has_failed (get_or phases j Unstarted) ≡ true → has_failed (get_or other j Unstarted) ≡ true)
    → is_past plan phases u ≡ true → is_past plan other u ≡ true
past_stays plan phases other u laws begun failed past = elim (or_cases (has_begun_in plan phases u) (failed_in plan phases u) past) [
  | inl before ↦ or_left _ _ (begun before)
  | inr fails ↦ or_right _ _ (failed_stays plan phases other u laws failed fails)
]

-- before any event no unit has begun, and none was asked for
pub openings_first : (plan : PlanGraph) (unmet : List ℕ) (t : Openings) → HaveUnits plan t → t.begun.items ≡ replicate plan.unit_count false → t.asked ≡ false → AreOpenings plan (replicate (length plan.units) Unstarted) unmet t
openings_first plan unmet t entries begun unasked = record {
  entries = entries;
  begun = λ u within. ap (λ bs. get_or bs u false) begun ∙ get_or-replicate plan.unit_count u false false within ∙ sym (none_begun u);
  waiting = λ asked. absurd (both_ways _ unasked asked);
  free = λ asked. absurd (both_ways _ unasked asked);
}
  where
    none_begun : (u : ℕ) → has_begun_in plan (replicate (length plan.units) Unstarted) u ≡ false
    none_begun u = false_from_ne_true _ (λ some.
        let (i, within, both) = (any_below-Decides (length plan.units) (λ j. (unit_of plan j == u) && not (is_unstarted (get_or (replicate (length plan.units) Unstarted) j Unstarted)))).0 some in
        both_ways _ (not-true _ (and_parts (unit_of plan i == u) _ both).1) (ap is_unstarted (get_or-replicate_Unstarted (length plan.units) i)))

-- what is counted after a start
pub openings_started : (plan : PlanGraph) (phases : List Phase) (unmet : List ℕ) (t new : Openings) (i : ℕ) → IsPlan plan → i < length plan.units → length phases ≡ length plan.units → is_unstarted (get_or phases i Unstarted) ≡ true
    → new ≡ record t { begun = new.begun } → new.begun.items ≡ set t.begun.items (unit_of plan i) true → AreOpenings plan phases unmet t → AreOpenings plan (set phases i Running) unmet new
openings_started plan phases unmet t new i laws within each fresh rest begun are = rw rest (record {
  entries = record { begun = ap length begun ∙ length-set t.begun.items (unit_of plan i) true ∙ are.entries.begun; inner = are.entries.inner; waiting = are.entries.waiting; free = are.entries.free };
  begun = λ u inside. ap (λ bs. get_or bs u false) begun ∙ elim (cases_eq u (unit_of plan i)) [
    | inl here ↦ rw here (get_or-set_same t.begun.items (unit_of plan i) true false (rw are.entries.begun (laws.counted i within)) ∙ sym now)
    | inr elsewhere ↦ get_or-set_other t.begun.items (unit_of plan i) u true false elsewhere ∙ are.begun u inside ∙ sym (begun_started plan phases i u within each elsewhere)
  ];
  waiting = λ asked. let w = are.waiting asked in record { inner = w.inner; waiting = w.waiting };
  free = λ asked. let kept = free_weaker plan (is_past plan phases) (is_past plan (set phases i Running)) t (λ u inside past. past_stays plan phases (set phases i Running) u laws (still u) (λ j bad. sym (failed j) ∙ bad) past) (are.free asked) in
      record { sound = kept.sound; among = kept.among };
})
  where
    here : get_or (set phases i Running) i Unstarted ≡ Running
    here = get_or-set_same phases i Running Unstarted (rw each within)

    now : has_begun_in plan (set phases i Running) (unit_of plan i) ≡ true
    now = begun-from plan (set phases i Running) i within (ap is_unstarted here)

    failed : (j : ℕ) → has_failed (get_or phases j Unstarted) ≡ has_failed (get_or (set phases i Running) j Unstarted)
    failed j = elim (cases_eq j i) [
      | inl same ↦ rw (same, here, Unstarted-from _ fresh) refl
      | inr elsewhere ↦ ap has_failed (sym (get_or-set_other phases i j Running Unstarted elsewhere))
    ]

    still : (u : ℕ) → has_begun_in plan phases u ≡ true → has_begun_in plan (set phases i Running) u ≡ true
    still u before = elim (cases_eq u (unit_of plan i)) [
      | inl same ↦ rw same now
      | inr elsewhere ↦ begun_started plan phases i u within each elsewhere ∙ before
    ]

-- a report begins no unit, and what has begun or failed stays so
past_reported : (plan : PlanGraph) (phases : List Phase) (i u : ℕ) → IsPlan plan → is_unstarted (get_or phases i Unstarted) ≡ false → is_past plan (set phases i Running) u ≡ true → is_past plan phases u ≡ true
past_reported plan phases i u laws reported = past_stays plan (set phases i Running) phases u laws
    (λ begun. sym (begun_same plan (set phases i Running) phases (as_before is_unstarted phases i Running (sym reported)) u) ∙ begun)
    (λ j bad. elim (get_or-set_cases phases i j Running) [
      | inl written ↦ absurd (true≢false (sym bad ∙ ap has_failed written.1))
      | inr kept ↦ ap has_failed (sym kept) ∙ bad
    ])

begun_reported : (plan : PlanGraph) (phases : List Phase) (i u : ℕ) → is_unstarted (get_or phases i Unstarted) ≡ false → has_begun_in plan (set phases i Running) u ≡ has_begun_in plan phases u
begun_reported plan phases i u reported = begun_same plan (set phases i Running) phases (as_before is_unstarted phases i Running (sym reported)) u

-- what is counted after a report, before a need is counted as satisfied
pub openings_reported : (plan : PlanGraph) (phases : List Phase) (unmet : List ℕ) (t : Openings) (i : ℕ) → IsPlan plan → is_unstarted (get_or phases i Unstarted) ≡ false → AreOpenings plan (set phases i Running) unmet t → AreOpenings plan phases unmet t
openings_reported plan phases unmet t i laws reported are = record {
  entries = are.entries;
  begun = λ u inside. are.begun u inside ∙ begun_reported plan phases i u reported;
  waiting = are.waiting;
  free = λ asked. free_weaker plan (is_past plan (set phases i Running)) (is_past plan phases) t (λ u inside. past_reported plan phases i u laws reported) (are.free asked);
}

-- a request whose last open need on another unit is satisfied is counted no longer, and the others are
pub waiting_less : (plan : PlanGraph) (unmet : List ℕ) (i : ℕ) → i < length plan.units → length unmet ≡ length plan.units → 0 < get_or unmet i 0 → get_or unmet i 0 - 1 ≡ inner_count plan i
    → waiting_below plan unmet (length plan.units) (unit_of plan i) ≡ suc (waiting_below plan (set unmet i (get_or unmet i 0 - 1)) (length plan.units) (unit_of plan i))
waiting_less plan unmet i within each some last = count_less (length plan.units) i _ _ within
    (rw (eq-eqb (unit_of plan i) _ refl, lt-ltb (inner_count plan i) (get_or unmet i 0) (omega (arith, some, last))) refl)
    (rw (eq-eqb (unit_of plan i) _ refl, get_or-set_same unmet i (get_or unmet i 0 - 1) 0 (rw each within), le-ltb (inner_count plan i) (get_or unmet i 0 - 1) (omega (arith, last))) refl)
    (λ j inside other. ap (λ n. (unit_of plan j == unit_of plan i) && nat_lt (inner_count plan j) n) (sym (get_or-set_other unmet i j (get_or unmet i 0 - 1) 0 other)))

-- for any other unit, and if it was not the last one, as many are counted as before
waiting_as_before : (plan : PlanGraph) (unmet : List ℕ) (i u : ℕ) → i < length plan.units → length unmet ≡ length plan.units → 0 < get_or unmet i 0 → (u ≡ unit_of plan i → get_or unmet i 0 - 1 ≢ inner_count plan i)
    → waiting_below plan unmet (length plan.units) u ≡ waiting_below plan (set unmet i (get_or unmet i 0 - 1)) (length plan.units) u
waiting_as_before plan unmet i u within each some other = count_same (length plan.units) _ _ (λ j inside. elim (cases_eq j i) [
  | inl here ↦ rw (here, get_or-set_same unmet i (get_or unmet i 0 - 1) 0 (rw each within)) (elim (cases_eq (unit_of plan i) u) [
    | inl mine ↦ ap (λ b. (unit_of plan i == u) && b) (elim (cases_lt (inner_count plan i) (get_or unmet i 0)) [
      | inl more ↦ lt-ltb _ _ more ∙ sym (lt-ltb (inner_count plan i) (get_or unmet i 0 - 1) (let not_last = other (sym mine) in omega (arith, more, not_last)))
      | inr none ↦ le-ltb _ _ none ∙ sym (le-ltb (inner_count plan i) (get_or unmet i 0 - 1) (omega (arith, none)))
    ])
    | inr elsewhere ↦ rw (ne_eqb (unit_of plan i) u elsewhere) refl
  ])
  | inr elsewhere ↦ ap (λ n. (unit_of plan j == u) && nat_lt (inner_count plan j) n) (sym (get_or-set_other unmet i j (get_or unmet i 0 - 1) 0 elsewhere))
])

-- so the members are counted again after a need was satisfied
pub waiting_taken : (plan : PlanGraph) (unmet : List ℕ) (t new : Openings) (i : ℕ) → IsPlan plan → i < length plan.units → length unmet ≡ length plan.units → 0 < get_or unmet i 0 → get_or unmet i 0 - 1 ≡ inner_count plan i → HaveUnits plan t → AreWaiting plan unmet t
    → new.inner ≡ t.inner → new.waiting.items ≡ set t.waiting.items (unit_of plan i) (get_or t.waiting.items (unit_of plan i) 0 - 1) → AreWaiting plan (set unmet i (get_or unmet i 0 - 1)) new
waiting_taken plan unmet t new i laws within each some last entries are inner waiting = record {
  inner = λ j inside. ap (λ xs. get_or xs.items j 0) inner ∙ are.inner j inside;
  waiting = λ u inside. ap (λ ns. get_or ns u 0) waiting ∙ elim (cases_eq u (unit_of plan i)) [
    | inl here ↦
        let less : get_or t.waiting.items (unit_of plan i) 0 ≡ suc (waiting_below plan (set unmet i (get_or unmet i 0 - 1)) (length plan.units) (unit_of plan i)) = are.waiting (unit_of plan i) (laws.counted i within) ∙ waiting_less plan unmet i within each some last in
        rw (here, get_or-set_same t.waiting.items (unit_of plan i) (get_or t.waiting.items (unit_of plan i) 0 - 1) 0 (rw entries.waiting (laws.counted i within))) (omega (arith, less))
    | inr elsewhere ↦ get_or-set_other t.waiting.items (unit_of plan i) u _ 0 elsewhere ∙ are.waiting u inside ∙ waiting_as_before plan unmet i u within each some (λ here. absurd (elsewhere here))
  ];
}

pub waiting_kept : (plan : PlanGraph) (unmet : List ℕ) (t : Openings) (i : ℕ) → i < length plan.units → length unmet ≡ length plan.units → 0 < get_or unmet i 0 → get_or unmet i 0 - 1 ≢ inner_count plan i → AreWaiting plan unmet t → AreWaiting plan (set unmet i (get_or unmet i 0 - 1)) t
waiting_kept plan unmet t i within each some more are = record {
  inner = are.inner;
  waiting = λ u inside. are.waiting u inside ∙ waiting_as_before plan unmet i u within each some (λ here. more);
}

-- a need that a unit which has not begun has on itself is not satisfied
inner_open : (plan : PlanGraph) (phases : List Phase) (i : ℕ) (need : Need) → IsPlan plan → has_begun_in plan phases (unit_of plan i) ≡ false → i < length plan.units → Contains (needs_of plan i) need → unit_needed (unit_of plan) need ≡ unit_of plan i → satisfied_in plan phases need ≡ false
inner_open plan phases i (One r) laws fresh within has here =
    let earlier : r < i = laws.earlier i (One r) within has in
    ap has_succeeded (Unstarted-from _ (member_unstarted plan phases (unit_of plan i) r fresh (omega arith) here))
inner_open plan phases i (Group v) laws fresh within has here = let earlier : v < unit_of plan i = laws.earlier i (Group v) within has in absurd (omega (arith, here))

-- if no inner need is satisfied, what is not satisfied is inner or neither
split : {X : Type 0} (inner satisfied : X → Bool) (xs : List X) → All (λ x. inner x ≡ true → satisfied x ≡ false) xs → count_by (λ x. not (satisfied x)) xs ≡ count_by inner xs + count_by (λ x. not (inner x || satisfied x)) xs
split inner satisfied [] each = refl
split inner satisfied (x ∷ xs) each =
    rw (sum_by-cons (λ y. cond (not (satisfied y)) 1 0) x xs, sum_by-cons (λ y. cond (inner y) 1 0) x xs, sum_by-cons (λ y. cond (not (inner y || satisfied y)) 1 0) x xs, split inner satisfied xs (λ k d within. each (suc k) d (omega arith)))
    (at (inner x) (satisfied x) (each 0 x (omega arith)) (count_by inner xs) (count_by (λ y. not (inner y || satisfied y)) xs))
  where
    at : (i s : Bool) → (i ≡ true → s ≡ false) → (a b : ℕ) → cond (not s) 1 0 + (a + b) ≡ (cond i 1 0 + a) + (cond (not (i || s)) 1 0 + b)
    at true true never a b = absurd (true≢false (never refl))
    at true false never a b = omega arith
    at false true never a b = omega arith
    at false false never a b = omega arith

-- a member of a unit that has not begun is counted exactly when it needs something more of another unit
module _ (plan : PlanGraph) (phases : List Phase) (unmet : List ℕ) (u : ℕ) (laws : IsPlan plan) (are : AreUnmet plan phases unmet) (fresh : has_begun_in plan phases u ≡ false) where
  abbrev is_met : ℕ → Need → Bool
  is_met i need = (unit_needed (unit_of plan) need == unit_of plan i) || satisfied_in plan phases need

  parts : (i : ℕ) → i < length plan.units → unit_of plan i ≡ u → get_or unmet i 0 ≡ inner_count plan i + count_by (λ need. not (is_met i need)) (needs_of plan i)
  parts i within here = are i within ∙ split (λ need. unit_needed (unit_of plan) need == unit_of plan i) (satisfied_in plan phases) (needs_of plan i) (λ k d inside own.
      inner_open plan phases i _ laws (subst (λ v. has_begun_in plan phases v ≡ false) (sym here) fresh) within (Contains-get_or (needs_of plan i) k d inside) (eqb-true _ _ own))

  all_met : (i : ℕ) → i < length plan.units → unit_of plan i ≡ u → waiting_below plan unmet (length plan.units) u ≡ 0 → list_all (is_met i) (needs_of plan i) ≡ true
  all_met i within here none = sym (none_unmet (is_met i) (needs_of plan i)) ∙ eq-eqb _ 0 (elim (cases_lt (inner_count plan i) (get_or unmet i 0)) [
    | inl more ↦
        let out : not ((unit_of plan i == u) && nat_lt (inner_count plan i) (get_or unmet i 0)) ≡ true = (all_below-Decides (length plan.units) (λ j. not ((unit_of plan j == u) && nat_lt (inner_count plan j) (get_or unmet j 0)))).0
        (sym (none_counted (length plan.units) _ _ (λ j. refl)) ∙ eq-eqb _ 0 none) i within in
        absurd (both_ways _ (not-true _ out) (and_from _ _ (eq-eqb (unit_of plan i) u here) (lt-ltb _ _ more)))
    | inr least ↦ let counted = parts i within here in omega (arith, counted, least)
  ])

  outer_met : waiting_below plan unmet (length plan.units) u ≡ 0 → list_all (satisfied_in plan phases) (outer_needs plan u) ≡ true
  outer_met none = outer-from plan u (satisfied_in plan phases) (λ i need within here has other.
      elim (or_cases (unit_needed (unit_of plan) need == unit_of plan i) _ (list_all-each (is_met i) (needs_of plan i) need (all_met i within here none) has)) [
        | inl mine ↦ absurd (other (eqb-true _ _ mine ∙ here))
        | inr met ↦ met
      ])

  none_waits : list_all (satisfied_in plan phases) (outer_needs plan u) ≡ true → waiting_below plan unmet (length plan.units) u ≡ 0
  none_waits all = count_none (length plan.units) _ (λ i within. elim (cases_eq (unit_of plan i) u) [
    | inl here ↦
        let none : count_by (λ need. not (is_met i need)) (needs_of plan i) ≡ 0 = eqb-true _ 0 (none_unmet (is_met i) (needs_of plan i) ∙ list_all-from (is_met i) (needs_of plan i) (λ need has. elim (cases_eq (unit_needed (unit_of plan) need) (unit_of plan i)) [
          | inl mine ↦ or_left _ _ (eq-eqb _ _ mine)
          | inr other ↦ or_right _ _ (outer-each plan u i need (satisfied_in plan phases) all within here has (λ e. other (e ∙ sym here)))
        ])) in
        let counted = parts i within here in
        and_right _ _ (le-ltb (inner_count plan i) (get_or unmet i 0) (omega (arith, counted, none)))
    | inr elsewhere ↦ rw (ne_eqb (unit_of plan i) u elsewhere) refl
  ])

  pub none_waiting : (waiting_below plan unmet (length plan.units) u == 0) ≡ list_all (satisfied_in plan phases) (outer_needs plan u)
  none_waiting = same_test _ _ (λ none. outer_met (eqb-true _ 0 none)) (λ met. eq-eqb _ 0 (none_waits met))

-- the unit has begun or failed
passed_is : (state : State) (counted : Progress) (u : ℕ) → IsCounted state counted → u < state.plan_graph.unit_count → is_passed counted.counts.openings counted.counts.failed u ≡ is_past state.plan_graph state.phases u
passed_is state counted u are inside = rw (are.counts.openings.begun u inside, are.counts.units.failed u inside) refl

regroup : (f satisfied begun failed stopped room : Bool) → ((begun || failed) ≡ false → f ≡ satisfied) → (f && not (begun || failed) && not stopped && room) ≡ (not begun && not stopped && not failed && satisfied && room)
regroup f satisfied false false true room same = rw (same refl) (at satisfied)
  where
    at : (s : Bool) → (s && true && false && room) ≡ false
    at true = refl
    at false = refl
regroup f satisfied false false false room same = rw (same refl) (at satisfied)
  where
    at : (s : Bool) → (s && true && true && room) ≡ (s && room)
    at true = refl
    at false = refl
regroup true satisfied false true true room same = refl
regroup true satisfied false true false room same = refl
regroup false satisfied false true true room same = refl
regroup false satisfied false true false room same = refl
regroup true satisfied true failed stopped room same = refl
regroup false satisfied true failed stopped room same = refl

-- which units may begin
pub begins_is : (state : State) (counted : Progress) (u : ℕ) → IsPlan state.plan_graph → counted.counts.openings.asked ≡ true → IsCounted state counted → u < state.plan_graph.unit_count
    → (get_or counted.counts.openings.free u false && not (is_passed counted.counts.openings counted.counts.failed u) && not counted.stopped && nat_lt (count_by (λ runs. runs) counted.counts.running) (state.policy.width + counted.lanes.spare)) ≡ may_begin state u
begins_is state counted u laws asked are inside =
    rw (passed_is state counted u are inside, are.stopped, running_is state counted are, are.lanes.spare)
    (regroup (get_or counted.counts.openings.free u false) (outer_satisfied state u) (has_begun_in state.plan_graph state.phases u) (unit_failed state u) (is_stopped state) (nat_lt (running_count state) (places state)) met)
  where
    or_first : (has_begun_in state.plan_graph state.phases u || failed_in state.plan_graph state.phases u) ≡ false → has_begun_in state.plan_graph state.phases u ≡ false
    or_first now = false_from_ne_true _ (λ begun. both_ways _ now (or_left _ _ begun))

    met : is_past state.plan_graph state.phases u ≡ false → get_or counted.counts.openings.free u false ≡ outer_satisfied state u
    met now =
        let waiting = are.counts.openings.waiting asked in
        let free = are.counts.openings.free asked in
        let none = none_waiting state.plan_graph state.phases counted.counts.unmet.items u laws are.counts.unmet (or_first now) in
        same_test _ _
        (λ is_free. sym none ∙ eq-eqb _ 0 (sym (waiting.waiting u inside) ∙ free.sound u inside is_free))
        (λ satisfied. free.among u inside (waiting.waiting u inside ∙ eqb-true _ 0 (none ∙ satisfied)) now)

-- no unit may begin in a run that is stopped or full
shut : (a stopped room : Bool) → (stopped || not room) ≡ true → (a && not stopped && room) ≡ false
shut false stopped room closed = refl
shut true true room closed = refl
shut true false false closed = refl
shut true false true closed = absurd (true≢false (sym closed))

pub none_begins : (state : State) (counted : Progress) → IsPlan state.plan_graph → counted.counts.openings.asked ≡ true → IsCounted state counted
    → (counted.stopped || not (nat_lt (count_by (λ runs. runs) counted.counts.running) (state.policy.width + counted.lanes.spare))) ≡ true → None ≡ first_below state.plan_graph.unit_count (may_begin state)
none_begins state counted laws asked are closed = sym (none_passes _ _ (λ u inside. sym (begins_is state counted u laws asked are inside) ∙ shut _ counted.stopped _ closed))

-- the first free unit that is not passed over is the first that may begin
pub first_unit : (state : State) (counted : Progress) (found : Option ℕ) → IsPlan state.plan_graph → counted.counts.openings.asked ≡ true → IsCounted state counted
    → (counted.stopped || not (nat_lt (count_by (λ runs. runs) counted.counts.running) (state.policy.width + counted.lanes.spare))) ≡ false
    → (found ≡ None → (u : ℕ) → get_or counted.counts.openings.free u false ≡ true → is_passed counted.counts.openings counted.counts.failed u ≡ true)
    → IfSome found (IsFirstFree counted.counts.openings counted.counts.failed)
    → found ≡ first_below state.plan_graph.unit_count (may_begin state)
first_unit state counted found laws asked are going none first = at found none first
  where
    over : (u : ℕ) → (get_or counted.counts.openings.free u false ≡ true → is_passed counted.counts.openings counted.counts.failed u ≡ true) → (b : Bool) → get_or counted.counts.openings.free u false ≡ b
        → (b && not (is_passed counted.counts.openings counted.counts.failed u) && not counted.stopped && nat_lt (count_by (λ runs. runs) counted.counts.running) (state.policy.width + counted.lanes.spare)) ≡ false
    over u passed true e = rw (passed e) refl
    over u passed false e = refl

    stays : counted.stopped ≡ false
    stays = false_from_ne_true _ (λ stops. both_ways _ going (or_left counted.stopped _ stops))

    room : nat_lt (count_by (λ runs. runs) counted.counts.running) (state.policy.width + counted.lanes.spare) ≡ true
    room = not-false (nat_lt (count_by (λ runs. runs) counted.counts.running) (state.policy.width + counted.lanes.spare)) (false_from_ne_true _ (λ full. both_ways _ going (or_right counted.stopped _ full)))

    at : (found : Option ℕ) → (found ≡ None → (u : ℕ) → get_or counted.counts.openings.free u false ≡ true → is_passed counted.counts.openings counted.counts.failed u ≡ true) → IfSome found (IsFirstFree counted.counts.openings counted.counts.failed)
        → found ≡ first_below state.plan_graph.unit_count (may_begin state)
    at None none first = sym (none_passes _ _ (λ u inside. sym (begins_is state counted u laws asked are inside) ∙ over u (none refl u) (get_or counted.counts.openings.free u false) refl))
    at (Some u) none first =
        let inside : u < state.plan_graph.unit_count = subst (λ n. u < n) are.counts.openings.entries.free first.within in
        sym (first_is _ _ u inside
        (sym (begins_is state counted u laws asked are inside) ∙ rw (first.free, first.here, stays, room) refl)
        (λ v before. sym (begins_is state counted v laws asked are (omega arith)) ∙ over v (first.before v before) (get_or counted.counts.openings.free v false) refl))

-- it is a unit of the plan
pub first_within : (state : State) (counted : Progress) (found : Option ℕ) → IsCounted state counted → IfSome found (IsFirstFree counted.counts.openings counted.counts.failed) → IfSome found (λ u. u < state.plan_graph.unit_count)
first_within state counted None are first = tt
first_within state counted (Some u) are first = subst (λ n. u < n) are.counts.openings.entries.free first.within

-- what a run counts once a unit was asked for
pub counted_asked : (state : State) (counted new : Progress) → new ≡ record counted { counts = record counted.counts { openings = new.counts.openings } } → new.phases.items ≡ state.phases → AreCounts state.plan_graph new.phases.items new.counts → IsCounted state counted → IsCounted state new
counted_asked state counted new rest phases counts are = record {
  counts = subst (λ ps. AreCounts state.plan_graph ps new.counts) phases counts;
  stopped = ap (λ (p : Progress). p.stopped) rest ∙ are.stopped;
  lanes = subst (AreLanes state.awaited) (sym (ap (λ (p : Progress). p.lanes) rest)) are.lanes;
}
