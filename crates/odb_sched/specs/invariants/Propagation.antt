-- How a worklist propagates a failure from unit to unit.
use Rattle.std.specs.Prelude.{◌≡◌, ◌==◌, ◌&&◌, ℕ, ◌<◌, Bool, true, not, nat_le, List, length, slice_index_or, Contains}
use Rattle.odb_dense.specs.declared.worklist.Mark.{Mark}
use Rattle.odb_dense.specs.declared.worklist.Mark.TheVariants.{Unvisited}
use Rattle.odb_dense.specs.Marks.{is_marked, is_visited}
use Rattle.odb_check.specs.declared.need.Need.{Need}
use Rattle.odb_check.specs.PlanGraph.{PlanGraph, unit_of, needs_of, unit_needed}
use Rattle.odb_sched.specs.declared.phase.Phase.{Phase}
use Rattle.odb_sched.specs.declared.phase.Phase.TheVariants.{Unstarted}
use Rattle.odb_sched.specs.run.State.{has_failed}
use Rattle.odb_sched.specs.run.Steps.{failed_in}
use Rattle.odb_sched.specs.invariants.Counts.{is_skipped}

-- a member of the first unit needs something of the second
abbrev pub NeedsUnit : PlanGraph → ℕ → ℕ → Type 0
NeedsUnit plan w u = (i : ℕ) × (need : Need) × (i < length plan.units) × Contains (needs_of plan i) need × (unit_needed (unit_of plan) need ≡ u) × (unit_of plan i ≡ w)

-- whether a request is skipped, but for the members of a unit from a position on
abbrev pub is_skipped_until : PlanGraph → List Mark → ℕ → ℕ → ℕ → Bool
is_skipped_until plan units u from i = is_skipped plan units i && not (unit_of plan i == u && nat_le from i)

-- marks are kept, and no other unit is taken from the worklist
pub record HaveMarked (before after : List Mark) : Type 0 where
  pub each : length after ≡ length before
  pub kept : (v : ℕ) → is_marked (slice_index_or before v Unvisited) ≡ true → is_marked (slice_index_or after v Unvisited) ≡ true
  pub same : (v : ℕ) → is_visited (slice_index_or after v Unvisited) ≡ is_visited (slice_index_or before v Unvisited)

-- the marked units have failed; each unit with a failed member is marked, and so is each that depends on a unit that was taken
pub record ArePropagating (plan : PlanGraph) (phases : List Phase) (units : List Mark) : Type 0 where
  pub each : length units ≡ plan.unit_count
  pub failed : (v : ℕ) → is_marked (slice_index_or units v Unvisited) ≡ true → failed_in plan phases v ≡ true
  pub own : (i : ℕ) → i < length plan.units → has_failed (slice_index_or phases i Unstarted) ≡ true → is_marked (slice_index_or units (unit_of plan i) Unvisited) ≡ true
  pub propagated : (v w : ℕ) → NeedsUnit plan w v → is_visited (slice_index_or units v Unvisited) ≡ true → is_marked (slice_index_or units w Unvisited) ≡ true
