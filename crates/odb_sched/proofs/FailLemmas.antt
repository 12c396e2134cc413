-- A running request fails: the counts of the successes stay, and its unit is put on the worklist.
use Rattle.std.proofs.Common.{◌≡◌, ◌⊎◌, ℕ, ◌<◌, ◌∙◌, sym, ap, refl, subst, Bool, true, false, List, length, get_or, set, map, get_or-set_other, get_or-set_same, length-set, inl, inr, if◌then◌else◌}
use Rattle.std.proofs.lemmas.Bool.{cases_eq, cases_lt, both_ways, true≢false}
use Rattle.std.proofs.lemmas.List.{get_or_past}
use Rattle.odb_check.specs.PlanGraph.{PlanGraph, IsPlan, unit_of}
use Rattle.odb_dense.specs.declared.worklist.Mark.{Mark}
use Rattle.odb_dense.specs.declared.worklist.Mark.TheVariants.{Unvisited, Queued, Visited}
use Rattle.odb_sched.specs.declared.phase.Phase.{Phase}
use Rattle.odb_sched.specs.declared.phase.Phase.TheVariants.{Unstarted, Running}
use Rattle.odb_sched.specs.declared.counts.Counts.{Counts}
use Rattle.odb_sched.specs.run.State.{is_running, has_succeeded, has_failed}
use Rattle.odb_sched.specs.run.Failing.{own}
use Rattle.odb_sched.specs.run.Steps.{failed_in}
use Rattle.odb_dense.specs.Marks.{is_marked, is_visited, marked}
use Rattle.odb_sched.specs.invariants.Counts.{ArePropagated, AreCounts, HasReady}
use Rattle.odb_sched.specs.invariants.Openings.{AreOpenings}
use Rattle.odb_sched.specs.invariants.Propagation.{NeedsUnit, HaveMarked, ArePropagating}
use Rattle.odb_sched.proofs.FailingLemmas.{Fails-from_fails, fails-from_Fails, Fails-as}
use Rattle.odb_sched.proofs.PropagateLemmas.{own_fails, need_fails}
use Rattle.odb_sched.proofs.SameLemmas.{as_before, unmet_same, pending_same}
use Rattle.odb_sched.proofs.PhaseLemmas.{failed_not_succeeded, get_or-set_cases}

-- a unit that is put on the worklist
not_visited : (s : Mark) → is_marked s ≡ false → is_visited s ≡ false
not_visited Visited e = e
not_visited s e = refl

put_written : (units : List Mark) (u : ℕ) → u < length units → is_marked (get_or units u Unvisited) ≡ false → HaveMarked units (set units u Queued)
put_written units u within fresh = record {
  each = length-set units u Queued;
  kept = λ v before. elim (cases_eq v u) [
    | inl here ↦ absurd (both_ways (is_marked (get_or units u Unvisited)) fresh (subst (λ x. is_marked (get_or units x Unvisited) ≡ true) here before))
    | inr elsewhere ↦ ap is_marked (get_or-set_other units u v Queued Unvisited elsewhere) ∙ before
  ];
  same = λ v. elim (cases_eq v u) [
    | inl here ↦ rw (here, get_or-set_same units u Queued Unvisited within) (sym (not_visited _ fresh))
    | inr elsewhere ↦ ap is_visited (get_or-set_other units u v Queued Unvisited elsewhere)
  ];
}

kept_all : (units : List Mark) → HaveMarked units units
kept_all units = record { each = refl; kept = λ v before. before; same = λ v. refl }

put_marks : (units : List Mark) (u : ℕ) → u < length units → HaveMarked units (marked units u)
put_marks units u within = at (is_marked (get_or units u Unvisited)) refl
  where
    at : (b : Bool) → is_marked (get_or units u Unvisited) ≡ b → HaveMarked units (if b then units else set units u Queued)
    at true e = kept_all units
    at false e = put_written units u within e

put_here : (units : List Mark) (u : ℕ) → u < length units → is_marked (get_or (marked units u) u Unvisited) ≡ true
put_here units u within = at (is_marked (get_or units u Unvisited)) refl
  where
    at : (b : Bool) → is_marked (get_or units u Unvisited) ≡ b → is_marked (get_or (if b then units else set units u Queued) u Unvisited) ≡ true
    at true e = e
    at false e = ap is_marked (get_or-set_same units u Queued Unvisited within)

put_only : (units : List Mark) (u v : ℕ) → is_marked (get_or (marked units u) v Unvisited) ≡ true → (is_marked (get_or units v Unvisited) ≡ true) ⊎ (v ≡ u)
put_only units u v = at (is_marked (get_or units u Unvisited))
  where
    at : (b : Bool) → is_marked (get_or (if b then units else set units u Queued) v Unvisited) ≡ true → (is_marked (get_or units v Unvisited) ≡ true) ⊎ (v ≡ u)
    at true now = inl now
    at false now = elim (cases_eq v u) [
      | inl here ↦ inr here
      | inr elsewhere ↦ inl (sym (ap is_marked (get_or-set_other units u v Queued Unvisited elsewhere)) ∙ now)
    ]

-- what had failed fails still
fails_still : (plan : PlanGraph) (phases : List Phase) (i v : ℕ) → IsPlan plan → failed_in plan (set phases i Running) v ≡ true → failed_in plan phases v ≡ true
fails_still plan phases i v laws failed =
    fails-from_Fails plan (λ j. has_failed (get_or phases j Unstarted)) v laws
    (Fails-as plan (λ j. has_failed (get_or (set phases i Running) j Unstarted)) (λ j. has_failed (get_or phases j Unstarted)) v
    (λ j below bad. own j below (still j bad))
    (Fails-from_fails plan (λ j. has_failed (get_or (set phases i Running) j Unstarted)) v failed))
  where
    still : (j : ℕ) → has_failed (get_or (set phases i Running) j Unstarted) ≡ true → has_failed (get_or phases j Unstarted) ≡ true
    still j bad = elim (get_or-set_cases phases i j Running) [
      | inl written ↦ absurd (true≢false (sym bad ∙ ap has_failed written.1))
      | inr kept ↦ ap has_failed (sym kept) ∙ bad
    ]

marked_within : (units : List Mark) (v : ℕ) → is_marked (get_or units v Unvisited) ≡ true → v < length units
marked_within units v e = elim (cases_lt v (length units)) [
  | inl within ↦ within
  | inr past ↦ absurd (true≢false (sym e ∙ ap is_marked (get_or_past units v Unvisited past)))
]

-- the unit of the request is on the worklist, and the other failed ones were taken from it
pub propagating_failed : (plan : PlanGraph) (phases : List Phase) (units : List Mark) (i : ℕ) → IsPlan plan → i < length plan.units → has_failed (get_or phases i Unstarted) ≡ true → ArePropagated plan (set phases i Running) units
    → ArePropagating plan phases (marked units (unit_of plan i))
propagating_failed plan phases units i laws within failed are = record {
  each = marks.each ∙ are.each;
  failed = λ v now. elim (put_only units (unit_of plan i) v now) [
    | inl before ↦ fails_still plan phases i v laws (sym (are.failed v (subst (λ n. v < n) are.each (marked_within units v before))) ∙ sym (are.marked v) ∙ before)
    | inr here ↦ subst (λ x. failed_in plan phases x ≡ true) (sym here) (own_fails plan phases i laws within failed)
  ];
  own = λ j below bad. elim (cases_eq j i) [
    | inl here ↦ subst (λ k. is_marked (get_or (marked units (unit_of plan i)) (unit_of plan k) Unvisited) ≡ true) (sym here) (put_here units (unit_of plan i) known)
    | inr elsewhere ↦ taken (unit_of plan j) (laws.counted j below) (own_fails plan (set phases i Running) j laws below (ap has_failed (get_or-set_other phases i j Running Unstarted elsewhere) ∙ bad))
  ];
  propagated = λ v w needs now.
      let before : is_visited (get_or units v Unvisited) ≡ true = sym (marks.same v) ∙ now in
      let below : v < plan.unit_count = subst (λ n. v < n) are.each (marked_within units v (are.marked v ∙ before)) in
      taken w (of_plan w v needs) (need_fails plan (set phases i Running) v w laws needs (sym (are.failed v below) ∙ before));
}
  where
    known : unit_of plan i < length units
    known = subst (λ n. unit_of plan i < n) (sym are.each) (laws.counted i within)

    marks : HaveMarked units (marked units (unit_of plan i))
    marks = put_marks units (unit_of plan i) known

    of_plan : (w v : ℕ) → NeedsUnit plan w v → w < plan.unit_count
    of_plan w v (j, need, below, has, about, here) = subst (λ x. x < plan.unit_count) here (laws.counted j below)

    taken : (v : ℕ) → v < plan.unit_count → failed_in plan (set phases i Running) v ≡ true → is_marked (get_or (marked units (unit_of plan i)) v Unvisited) ≡ true
    taken v below bad = marks.kept v (are.marked v ∙ are.failed v below ∙ bad)

-- the counts are right again
pub counts_failed : (plan : PlanGraph) (phases : List Phase) (i : ℕ) (before t : Counts) → has_failed (get_or phases i Unstarted) ≡ true → AreCounts plan (set phases i Running) before
    → t.unmet.items ≡ before.unmet.items → t.pending.items ≡ before.pending.items → t.running ≡ map is_running phases → ArePropagated plan phases t.failed → HasReady plan phases t → AreOpenings plan phases t.unmet.items t.openings → AreCounts plan phases t
counts_failed plan phases i before t failed counts unmet pending running units ready openings = record {
  ready = ready;
  unmet = λ j below. ap (λ xs. get_or xs j 0) unmet ∙ counts.unmet j below ∙ unmet_same plan (set phases i Running) phases same j;
  pending = λ u below. ap (λ xs. get_or xs u 0) pending ∙ counts.pending u below ∙ pending_same plan (set phases i Running) phases same u;
  units = units;
  running = running;
  openings = openings;
}
  where
    same : (j : ℕ) → has_succeeded (get_or (set phases i Running) j Unstarted) ≡ has_succeeded (get_or phases j Unstarted)
    same = as_before has_succeeded phases i Running (sym (failed_not_succeeded (get_or phases i Unstarted) failed))

-- the unit of the request is put on the worklist as it was before
pub put_unit : (plan : PlanGraph) (units between after : List Mark) (i u : ℕ) → between ≡ units → u ≡ unit_of plan i → after ≡ marked between u → after ≡ marked units (unit_of plan i)
put_unit plan units between after i u same unit_is put = put ∙ ap (λ us. marked us u) same ∙ ap (marked units) unit_is
