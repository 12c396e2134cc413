-- What is counted before any event: all needs, all members, and no failures.
use Rattle.std.proofs.Common.{◌≡◌, ◌↔◌, ℕ, zero, suc, ◌<◌, ◌≤◌, ◌+◌, ◌-◌, ◌==◌, ◌∙◌, sym, ap, refl, subst, arith, Bool, true, false, not, cond, ◌&&◌, List, [], ◌∷◌, ◌++◌, length, get_or, map, replicate, inl, inr, All, count_by, ne_eqb, eq-eqb, eqb-true}
use Rattle.std.proofs.lemmas.Bool.{cases_lt, both_ways, false_from_ne_true}
use Rattle.std.proofs.lemmas.List.{get_or-replicate, get_or_past, length-replicate}
use Rattle.std.proofs.lemmas.List.Sums.{sum_by-cons}
use Rattle.std.proofs.lemmas.List.Elements.{All-get_or}
use Rattle.odb_check.specs.declared.need.Need.{Need}
use Rattle.odb_check.specs.declared.need.Need.TheVariants.{One, Group}
use Rattle.odb_check.specs.Firsts.{count_below, list_below}
use Rattle.odb_check.specs.PlanGraph.{PlanGraph, IsPlan, unit_of, needs_of, IsSpan, IsNeed, unit_needed}
use Rattle.odb_dense.specs.declared.worklist.Mark.TheVariants.{Unvisited}
use Rattle.odb_dense.specs.Marks.{is_marked, is_visited}
use Rattle.odb_sched.specs.declared.phase.Phase.{Phase}
use Rattle.odb_sched.specs.declared.phase.Phase.TheVariants.{Unstarted}
use Rattle.odb_sched.specs.declared.counts.Counts.{Counts}
use Rattle.odb_sched.specs.run.State.{is_running, is_unstarted, has_succeeded, has_failed}
use Rattle.odb_sched.specs.run.Failing.{Fails, own, propagated}
use Rattle.odb_sched.specs.invariants.Counts.{needs_in, members_in, need_counts, member_counts, AreCounts, ArePropagated, is_skipped, pending_in, unmet_in}
use Rattle.odb_sched.specs.invariants.Openings.{AreOpenings}
use Rattle.odb_sched.specs.run.Steps.{satisfied_in, failed_in}
use Rattle.odb_sched.proofs.CountLemmas.{count_same, count_none}
use Rattle.odb_sched.proofs.FailingLemmas.{Fails-from_fails}
use Rattle.odb_sched.proofs.PhaseLemmas.{get_or-replicate_Unstarted}
use Rattle.odb_check.proofs.BelowLemmas.{length-list_below, get_or-list_below}
use Rattle.odb_sched.proofs.SpanLemmas.{known_needs}
use Rattle.odb_sched.proofs.UnmetLemmas.{none_pending}

-- if a test passes from one number up to another, so many are counted
count_from : (n from : ℕ) (test : ℕ → Bool) → from ≤ n → ((i : ℕ) → i < n → (test i ≡ true) ↔ (from ≤ i)) → count_below n test ≡ n - from
count_from zero from test within exact = omega arith
count_from (suc n) from test within exact = elim (cases_lt n from) [
  | inl before ↦
      count_none (suc n) test (λ i below. false_from_ne_true _ (λ passes. let after : from ≤ i = (exact i below).0 passes in omega arith)) ∙ omega arith
  | inr after ↦
      let rest : count_below n test ≡ n - from = count_from n from test after (λ i below. exact i (omega arith)) in
      rw ((exact n (omega arith)).1 after) (omega (arith, rest))
]

count_span : (n from to : ℕ) (test : ℕ → Bool) → from ≤ to → to ≤ n → ((i : ℕ) → i < n → (test i ≡ true) ↔ ((from ≤ i) × (i < to))) → count_below n test ≡ to - from
count_span zero from to test order within exact = omega arith
count_span (suc n) from to test order within exact = elim (cases_lt n to) [
  | inl last ↦
      let end : suc n ≡ to = omega arith in
      count_from (suc n) from test (omega arith) (λ i below. ((λ passes. ((exact i below).0 passes).0), (λ after. (exact i below).1 (after, omega arith)))) ∙ ap (λ m. m - from) end
  | inr past ↦
      rw (false_from_ne_true (test n) (λ passes. let before : n < to = ((exact n (omega arith)).0 passes).1 in omega arith)) (count_span n from to test order past (λ i below. exact i (omega arith)))
]

-- a unit has as many members as its positions span
pub members_of_span : (plan : PlanGraph) (u from to : ℕ) → IsSpan plan u from to → from < to → to - from ≡ members_in plan u
members_of_span plan u from to span some = sym (count_span (length plan.units) from to (λ i. unit_of plan i == u) (omega arith) span.within (λ i below. (
  (λ passes. (span.exact i below).0 (eqb-true _ _ passes)),
  (λ inside. eq-eqb _ _ ((span.exact i below).1 inside)),
)))

-- one unit more is counted
pub counted_more : (n count : ℕ) (value : ℕ → ℕ) (counts : List ℕ) → counts ≡ list_below n value → count ≡ value n → counts ++ count ∷ [] ≡ list_below (n + 1) value
counted_more n count value counts before here =
    let next : suc n ≡ n + 1 = omega arith in
    ap (λ ns. ns ++ count ∷ []) before ∙ ap (λ m. list_below n value ++ m ∷ []) here ∙ ap (λ m. list_below m value) next

-- if each element passes, all are counted
pub count_elements : {X : Type 0} (test : X → Bool) (xs : List X) → All (λ x. test x ≡ true) xs → count_by test xs ≡ length xs
count_elements test [] each = refl
count_elements test (x ∷ xs) each =
    let here : test x ≡ true = each 0 x (omega arith) in
    let rest : count_by test xs ≡ length xs = count_elements test xs (λ k d below. each (suc k) d (omega arith)) in
    sum_by-cons (λ y. cond (test y) 1 0) x xs ∙ rw (here, rest) (omega arith)

-- before any event no request has reported
abbrev fresh : PlanGraph → List Phase
fresh plan = replicate (length plan.units) Unstarted

fresh_at : (plan : PlanGraph) (i : ℕ) → get_or (fresh plan) i Unstarted ≡ Unstarted
fresh_at plan i = get_or-replicate_Unstarted (length plan.units) i

-- so all members are pending
pending_first : (plan : PlanGraph) (u : ℕ) → pending_in plan (fresh plan) u ≡ members_in plan u
pending_first plan u = count_same (length plan.units) _ _ (λ i below. rw (ap has_succeeded (fresh_at plan i)) (at (unit_of plan i == u)))
  where
    at : (b : Bool) → (b && not false) ≡ b
    at true = refl
    at false = refl

-- and nothing is satisfied
pub not_satisfied : (plan : PlanGraph) (need : Need) → ((u : ℕ) → u < plan.unit_count → 0 < members_in plan u) → IsNeed plan need → satisfied_in plan (fresh plan) need ≡ false
not_satisfied plan (One r) some known = ap has_succeeded (fresh_at plan r)
not_satisfied plan (Group u) some known =
    let left : 0 < members_in plan u = some u known in
    sym (none_pending plan (fresh plan) u) ∙ ne_eqb _ 0 (λ none. omega (arith, pending_first plan u))

unmet_first : (plan : PlanGraph) (i : ℕ) → IsPlan plan → ((u : ℕ) → u < plan.unit_count → 0 < members_in plan u) → i < length plan.units → needs_in plan i ≡ unmet_in plan (fresh plan) i
unmet_first plan i laws some within = sym (count_elements (λ need. not (satisfied_in plan (fresh plan) need)) (needs_of plan i) (λ k d below.
    ap not (not_satisfied plan (get_or (needs_of plan i) k d) some (known_needs plan i laws within k d below))))

-- no unit fails if no request is bad
none_fails : (plan : PlanGraph) (bad : ℕ → Bool) (u : ℕ) → ((i : ℕ) → bad i ≡ false) → Fails plan bad u → ⊥
none_fails plan bad _ good (own i within is_bad) = both_ways _ (good i) is_bad
none_fails plan bad _ good (propagated i need within has other failing) = none_fails plan bad (unit_needed (unit_of plan) need) good failing

none_failed : (plan : PlanGraph) (u : ℕ) → failed_in plan (fresh plan) u ≡ false
none_failed plan u = false_from_ne_true _ (λ failing. none_fails plan (λ i. has_failed (get_or (fresh plan) i Unstarted)) u (λ i. ap has_failed (fresh_at plan i)) (Fails-from_fails plan _ u failing))

-- each unit of a new worklist is unvisited, those past the end too
sound_at : (n u : ℕ) → get_or (replicate n Unvisited) u Unvisited ≡ Unvisited
sound_at n u = elim (cases_lt u n) [
  | inl within ↦ get_or-replicate n u Unvisited Unvisited within
  | inr past ↦ get_or_past (replicate n Unvisited) u Unvisited (rw (length-replicate n Unvisited) past)
]

propagated_first : (plan : PlanGraph) → ArePropagated plan (fresh plan) (replicate plan.unit_count Unvisited)
propagated_first plan = record {
  each = length-replicate plan.unit_count Unvisited;
  failed = λ u inside. ap is_visited (sound_at plan.unit_count u) ∙ sym (none_failed plan u);
  marked = λ u. ap is_marked (sound_at plan.unit_count u) ∙ sym (ap is_visited (sound_at plan.unit_count u));
}

-- and no request is skipped
not_skipped : (plan : PlanGraph) (i : ℕ) → is_skipped plan (replicate plan.unit_count Unvisited) i ≡ false
not_skipped plan i = ap is_visited (sound_at plan.unit_count (unit_of plan i))

none_running : (n : ℕ) → replicate n false ≡ map is_running (replicate n Unstarted)
none_running zero = refl
none_running (suc n) = ap (λ (bs : List Bool). false ∷ bs) (none_running n)

-- the counts of needs and members are right before any event
pub first_counts : (plan : PlanGraph) (t : Counts) → IsPlan plan → t.unmet.items ≡ need_counts plan → t.pending.items ≡ member_counts plan → All (λ count. 0 < count) t.pending.items → t.failed ≡ replicate plan.unit_count Unvisited
    → length t.ready ≡ length plan.units → ((i : ℕ) → i < length plan.units → get_or t.ready i false ≡ (get_or t.unmet.items i 0 == 0)) → t.running ≡ replicate (length plan.units) false
    → AreOpenings plan (fresh plan) t.unmet.items t.openings → AreCounts plan (fresh plan) t
first_counts plan t laws unmet pending some units each exact running openings = record {
  ready = record {
    entries = record {
      phased = length-replicate (length plan.units) Unstarted;
      unmet = ap length unmet ∙ length-list_below (length plan.units) (needs_in plan);
      pending = ap length pending ∙ length-list_below plan.unit_count (members_in plan);
      units = ap length units ∙ length-replicate plan.unit_count Unvisited;
      ready = each;
    };
    exact = λ i within. exact i within ∙ rw (units, ap is_unstarted (fresh_at plan i), not_skipped plan i) refl;
  };
  unmet = λ i within. ap (λ ns. get_or ns i 0) unmet ∙ get_or-list_below (length plan.units) (needs_in plan) i 0 within ∙ unmet_first plan i laws populated within;
  pending = λ u inside. member_count u inside ∙ sym (pending_first plan u);
  units = rw units (propagated_first plan);
  running = running ∙ none_running (length plan.units);
  openings = openings;
}
  where
    member_count : (u : ℕ) → u < plan.unit_count → get_or t.pending.items u 0 ≡ members_in plan u
    member_count u inside = ap (λ ns. get_or ns u 0) pending ∙ get_or-list_below plan.unit_count (members_in plan) u 0 inside

    populated : (u : ℕ) → u < plan.unit_count → 0 < members_in plan u
    populated u inside = subst (λ n. 0 < n) (member_count u inside) (All-get_or (λ n. 0 < n) t.pending.items u 0 (rw (ap length pending ∙ length-list_below plan.unit_count (members_in plan)) inside) some)
