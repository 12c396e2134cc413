-- The members of a unit that was taken from the worklist are skipped one by one: they are not ready then.
use Rattle.std.proofs.Common.{◌≡◌, ◌≢◌, ℕ, ◌<◌, ◌≤◌, ◌+◌, ap, refl, arith, Bool, true, false, ◌&&◌, not, eqb, eq-eqb, ne_eqb, List, length, get_or, set, inl, inr}
use Rattle.std.proofs.lemmas.Bool.{cases_eq, cases_lt, le-leb, lt-leb, and_right, not_from_true}
use Rattle.odb_check.specs.PlanGraph.{PlanGraph, unit_of, IsSpan}
use Rattle.odb_dense.specs.declared.worklist.Mark.{Mark}
use Rattle.odb_dense.specs.declared.worklist.Mark.TheVariants.{Unvisited}
use Rattle.odb_sched.specs.declared.phase.Phase.{Phase}
use Rattle.odb_sched.specs.declared.counts.Counts.{Counts}
use Rattle.odb_dense.specs.Marks.{is_visited}
use Rattle.odb_sched.specs.invariants.Counts.{is_skipped, AreReady}
use Rattle.odb_sched.specs.invariants.Propagation.{is_skipped_until}
use Rattle.odb_sched.proofs.ReadyLemmas.{ready_without}

-- at first no member of the unit is skipped, and in the end all are
pub skipped_first : (plan : PlanGraph) (units : List Mark) (u from to i : ℕ) → IsSpan plan u from to → i < length plan.units → (is_skipped plan units i && not (eqb (unit_of plan i) u)) ≡ is_skipped_until plan units u from i
skipped_first plan units u from to i span within = elim (cases_eq (unit_of plan i) u) [
  | inl here ↦ let inside = (span.exact i within).0 here in rw (eq-eqb (unit_of plan i) u here, le-leb from i inside.0) refl
  | inr elsewhere ↦ rw (ne_eqb (unit_of plan i) u elsewhere) refl
]

-- a member is skipped in its turn, and no other request is
skipped_now : (plan : PlanGraph) (units : List Mark) (u i : ℕ) → unit_of plan i ≡ u → is_visited (get_or units u Unvisited) ≡ true → is_skipped_until plan units u (i + 1) i ≡ true
skipped_now plan units u i here visited = rw (here, visited, lt-leb (i + 1) i (omega arith), eq-eqb u u refl) refl

skipped_other : (plan : PlanGraph) (units : List Mark) (u i j : ℕ) → j ≢ i → is_skipped_until plan units u i j ≡ is_skipped_until plan units u (i + 1) j
skipped_other plan units u i j elsewhere = elim (cases_lt j i) [
  | inl before ↦ rw (lt-leb i j before, lt-leb (i + 1) j (omega arith)) refl
  | inr after ↦ rw (le-leb i j after, le-leb (i + 1) j (omega (arith, elsewhere))) refl
]

-- the members of a unit before a position are not ready, and nothing else has changed
pub record AreSkipped (plan : PlanGraph) (phases : List Phase) (u i : ℕ) (before t : Counts) : Type 0 where
  pub ready : AreReady plan (is_skipped_until plan before.failed u i) phases t
  pub rest : t ≡ record before { ready = t.ready }

-- after a turn one member more is not ready
pub skipped_more : (plan : PlanGraph) (phases : List Phase) (u i : ℕ) (before t : Counts) (ready : List Bool) → i < length plan.units → unit_of plan i ≡ u → is_visited (get_or before.failed u Unvisited) ≡ true → AreSkipped plan phases u i before t
    → ready ≡ set t.ready i false → AreSkipped plan phases u (i + 1) before (record t { ready = ready })
skipped_more plan phases u i before t ready within here visited were out = record {
  ready = rw out (ready_without plan (is_skipped_until plan before.failed u i) (is_skipped_until plan before.failed u (i + 1)) phases phases t i t.running t.openings were.ready.entries.phased within (and_right _ _ (not_from_true _ (skipped_now plan before.failed u i here visited)))
      (λ j elsewhere. (refl, skipped_other plan before.failed u i j elsewhere)) were.ready);
  rest = ap (λ (x : Counts). record x { ready = ready }) were.rest;
}

-- the position of the walk is one of the unit
pub member_here : (plan : PlanGraph) (u from to i : ℕ) → IsSpan plan u from to → from ≤ i → i < to → (i < length plan.units) × (unit_of plan i ≡ u)
member_here plan u from to i span after before =
    let end : to ≤ length plan.units = span.within in
    let within : i < length plan.units = omega arith in
    (within, (span.exact i within).1 (after, before))
