use Rattle.std.proofs.Common.{◌≡◌, ◌⊎◌, ℕ, ◌<◌, true, slice_index_or}
use Rattle.odb_check.specs.PlanGraph.{unit_of}
use Rattle.odb_dense.specs.declared.worklist.Mark.TheVariants.{Unvisited}
use Rattle.odb_dense.specs.Marks.{is_marked}
use Rattle.odb_sched.specs.invariants.Propagation.{HaveMarked}
use Rattle.odb_sched.proofs.report.mark_units.Given as goal

-- the units of the requests so far are marked
abbrev pub invariant-loop-i : goal.invariant-loop-i
invariant-loop-i l = record {
  marks : HaveMarked l.initial.counts.failed l.counts.failed;
  marked : (k : ℕ) → k < l.i-index → is_marked (slice_index_or l.counts.failed (unit_of l.graph.plan_graph (slice_index_or l.list k 0)) Unvisited) ≡ true;
  only : (v : ℕ) → is_marked (slice_index_or l.counts.failed v Unvisited) ≡ true
      → (is_marked (slice_index_or l.initial.counts.failed v Unvisited) ≡ true) ⊎ ((k : ℕ) × (k < l.i-index) × (unit_of l.graph.plan_graph (slice_index_or l.list k 0) ≡ v));
  rest : l.counts ≡ record l.initial.counts { failed = l.counts.failed };
}
