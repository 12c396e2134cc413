-- A unit is taken from the worklist and its failure is propagated, until the worklist is empty.
use Rattle.std.proofs.Common.{◌≡◌, ◌≢◌, ◌⊎◌, ℕ, suc, ◌<◌, ◌∙◌, sym, ap, refl, subst, arith, Bool, true, false, not, List, length, get_or, set, get_or-set_other, get_or-set_same, length-set, inl, inr}
use Rattle.std.proofs.lemmas.Bool.{cases_eq, true≢false}
use Rattle.odb_check.specs.Firsts.{count_below}
use Rattle.odb_check.specs.PlanGraph.{PlanGraph, IsPlan, unit_of, unit_needed}
use Rattle.odb_dense.specs.declared.worklist.Mark.{Mark}
use Rattle.odb_dense.specs.declared.worklist.Mark.TheVariants.{Unvisited, Queued, Visited}
use Rattle.odb_sched.specs.declared.phase.Phase.{Phase}
use Rattle.odb_sched.specs.declared.phase.Phase.TheVariants.{Unstarted}
use Rattle.odb_sched.specs.run.State.{has_failed}
use Rattle.odb_sched.specs.run.Failing.{Fails, own, propagated}
use Rattle.odb_sched.specs.run.Steps.{failed_in}
use Rattle.odb_dense.specs.Marks.{is_marked, is_visited}
use Rattle.odb_sched.specs.declared.counts.Counts.{Counts}
use Rattle.odb_sched.specs.invariants.Counts.{ArePropagated}
use Rattle.odb_sched.specs.invariants.Propagation.{NeedsUnit, HaveMarked, ArePropagating}
use Rattle.odb_sched.proofs.CountLemmas.{count_same, count_less}
use Rattle.odb_sched.proofs.FailingLemmas.{Fails-from_fails, fails-from_Fails}

-- a unit fails by a member, or by a dependency of a member
pub own_fails : (plan : PlanGraph) (phases : List Phase) (i : ℕ) → IsPlan plan → i < length plan.units → has_failed (get_or phases i Unstarted) ≡ true → failed_in plan phases (unit_of plan i) ≡ true
own_fails plan phases i laws within failed = fails-from_Fails plan (λ j. has_failed (get_or phases j Unstarted)) (unit_of plan i) laws (own i within failed)

pub need_fails : (plan : PlanGraph) (phases : List Phase) (v w : ℕ) → IsPlan plan → NeedsUnit plan w v → failed_in plan phases v ≡ true → failed_in plan phases w ≡ true
need_fails plan phases v w laws (i, need, within, has, about, here) failed = elim (cases_eq v w) [
  | inl same ↦ subst (λ x. failed_in plan phases x ≡ true) same failed
  | inr other ↦
      let elsewhere : unit_needed (unit_of plan) need ≢ unit_of plan i = λ e. other (sym about ∙ e ∙ here) in
      subst (λ x. failed_in plan phases x ≡ true) here (fails-from_Fails plan (λ j. has_failed (get_or phases j Unstarted)) (unit_of plan i) laws
      (propagated i need within has elsewhere (Fails-from_fails plan (λ j. has_failed (get_or phases j Unstarted)) (unit_needed (unit_of plan) need) (subst (λ x. failed_in plan phases x ≡ true) (sym about) failed))))
]

visited_marked : (s : Mark) → is_visited s ≡ true → is_marked s ≡ true
visited_marked Unvisited e = absurd (true≢false (sym e))
visited_marked Queued e = refl
visited_marked Visited e = refl

visited_if_marked : (s : Mark) → s ≢ Queued → is_marked s ≡ is_visited s
visited_if_marked Unvisited e = refl
visited_if_marked Queued e = absurd (e refl)
visited_if_marked Visited e = refl

-- a unit on the worklist is taken: it was marked, and it is visited now
taken_marked : (units : List Mark) (u v : ℕ) → u < length units → get_or units u Unvisited ≡ Queued → is_marked (get_or (set units u Visited) v Unvisited) ≡ is_marked (get_or units v Unvisited)
taken_marked units u v within waits = elim (cases_eq v u) [
  | inl here ↦ rw (here, get_or-set_same units u Visited Unvisited within, waits) refl
  | inr elsewhere ↦ ap is_marked (get_or-set_other units u v Visited Unvisited elsewhere)
]

taken_other : (units : List Mark) (u v : ℕ) → is_visited (get_or (set units u Visited) v Unvisited) ≡ true → (v ≡ u) ⊎ (is_visited (get_or units v Unvisited) ≡ true)
taken_other units u v now = elim (cases_eq v u) [
  | inl here ↦ inl here
  | inr elsewhere ↦ inr (sym (ap is_visited (get_or-set_other units u v Visited Unvisited elsewhere)) ∙ now)
]

-- how many units were not taken yet
abbrev pub waiting_count : PlanGraph → List Mark → ℕ
waiting_count plan units = count_below plan.unit_count (λ v. not (is_visited (get_or units v Unvisited)))

-- a turn takes one
pub fewer_wait : (plan : PlanGraph) (units after : List Mark) (u : ℕ) → length units ≡ plan.unit_count → u < length units → get_or units u Unvisited ≡ Queued → HaveMarked (set units u Visited) after → waiting_count plan after < waiting_count plan units
fewer_wait plan units after u each within waits marks =
    let less : waiting_count plan units ≡ suc (waiting_count plan (set units u Visited)) = count_less plan.unit_count u _ _ (omega arith) (rw waits refl) (rw (get_or-set_same units u Visited Unvisited within) refl)
    (λ v below elsewhere. ap (λ s. not (is_visited s)) (sym (get_or-set_other units u v Visited Unvisited elsewhere))) in
    let same : waiting_count plan after ≡ waiting_count plan (set units u Visited) = count_same plan.unit_count _ _ (λ v below. ap not (marks.same v)) in
    omega arith

-- the dependents of the unit that was taken are marked
pub propagating_on : (plan : PlanGraph) (phases : List Phase) (units after : List Mark) (u : ℕ) → IsPlan plan → ArePropagating plan phases units → u < length units → get_or units u Unvisited ≡ Queued → HaveMarked (set units u Visited) after
    → ((w : ℕ) → NeedsUnit plan w u → is_marked (get_or after w Unvisited) ≡ true)
    → ((v : ℕ) → is_marked (get_or after v Unvisited) ≡ true → (is_marked (get_or (set units u Visited) v Unvisited) ≡ true) ⊎ NeedsUnit plan v u)
    → ArePropagating plan phases after
propagating_on plan phases units after u laws are within waits marks marked only = record {
  each = marks.each ∙ length-set units u Visited ∙ are.each;
  failed = λ v now. elim (only v now) [
    | inl before ↦ are.failed v (sym (taken_marked units u v within waits) ∙ before)
    | inr needs ↦ need_fails plan phases u v laws needs (are.failed u (ap is_marked waits))
  ];
  own = λ i below failed. kept (unit_of plan i) (are.own i below failed);
  propagated = λ v w needs now. elim (taken_other units u v (sym (marks.same v) ∙ now)) [
    | inl here ↦ marked w (subst (NeedsUnit plan w) here needs)
    | inr before ↦ kept w (are.propagated v w needs before)
  ];
}
  where
    kept : (v : ℕ) → is_marked (get_or units v Unvisited) ≡ true → is_marked (get_or after v Unvisited) ≡ true
    kept v before = marks.kept v (taken_marked units u v within waits ∙ before)

-- when the worklist is empty, each unit that fails was taken
taken_fails : (plan : PlanGraph) (phases : List Phase) (units : List Mark) (u : ℕ) → ArePropagating plan phases units → ((v : ℕ) → get_or units v Unvisited ≢ Queued) → Fails plan (λ i. has_failed (get_or phases i Unstarted)) u → is_visited (get_or units u Unvisited) ≡ true
taken_fails plan phases units _ are none (own i within failed) = sym (visited_if_marked _ (none (unit_of plan i))) ∙ are.own i within failed
taken_fails plan phases units _ are none (propagated i need within has other failing) =
    sym (visited_if_marked _ (none (unit_of plan i))) ∙ are.propagated (unit_needed (unit_of plan) need) (unit_of plan i) (i, need, within, has, refl, refl) (taken_fails plan phases units (unit_needed (unit_of plan) need) are none failing)

pub same_test : (a b : Bool) → (a ≡ true → b ≡ true) → (b ≡ true → a ≡ true) → a ≡ b
same_test true b there back = sym (there refl)
same_test false true there back = back refl
same_test false false there back = refl

pub all_propagated : (plan : PlanGraph) (phases : List Phase) (units : List Mark) → ArePropagating plan phases units → ((v : ℕ) → get_or units v Unvisited ≢ Queued) → ArePropagated plan phases units
all_propagated plan phases units are none = record {
  each = are.each;
  failed = λ u within. same_test _ _
      (λ taken. are.failed u (visited_marked _ taken))
      (λ failing. taken_fails plan phases units u are none (Fails-from_fails plan (λ i. has_failed (get_or phases i Unstarted)) u failing));
  marked = λ u. visited_if_marked _ (none u);
}

-- two fields have changed at most
pub others_kept : (before t : Counts) → t.unmet ≡ before.unmet → t.pending ≡ before.pending → t.running ≡ before.running → t.openings ≡ before.openings → t ≡ record before { failed = t.failed; ready = t.ready }
others_kept before t unmet pending running openings =
    ap (λ x. record t { unmet = x }) unmet
    ∙ ap (λ x. record t { unmet = before.unmet; pending = x }) pending
    ∙ ap (λ x. record t { unmet = before.unmet; pending = before.pending; running = x }) running
    ∙ ap (λ x. record t { unmet = before.unmet; pending = before.pending; running = before.running; openings = x }) openings
