use Rattle.std.proofs.Common.{◌≡◌, ◌⊎◌, ℕ, ◌<◌, ◌≤◌, true, slice_index_or}
use Rattle.odb_dense.specs.declared.worklist.Mark.TheVariants.{Unvisited}
use Rattle.odb_dense.specs.Marks.{is_marked}
use Rattle.odb_sched.specs.invariants.Propagation.{HaveMarked, NeedsUnit}
use Rattle.odb_sched.proofs.DependentLemmas.{IsMarkedRow}
use Rattle.odb_sched.proofs.report.mark_dependents.Given as goal

-- the dependents of the members so far are marked
abbrev pub invariant-loop-r : goal.invariant-loop-r
invariant-loop-r l = record {
  marks : HaveMarked l.initial.counts.failed l.counts.failed;
  marked : (r : ℕ) → l.initial.r ≤ r → r < l.r → IsMarkedRow l.graph.plan_graph l.graph.dependents l.counts.failed r;
  only : (v : ℕ) → is_marked (slice_index_or l.counts.failed v Unvisited) ≡ true → (is_marked (slice_index_or l.initial.counts.failed v Unvisited) ≡ true) ⊎ NeedsUnit l.graph.plan_graph v l.u;
  rest : l.counts ≡ record l.initial.counts { failed = l.counts.failed };
}
