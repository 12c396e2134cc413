use Rattle.std.proofs.Common.{◌≡◌}
use Rattle.odb_sched.specs.invariants.Counts.{HasReady}
use Rattle.odb_sched.specs.invariants.Propagation.{ArePropagating}
use Rattle.odb_sched.proofs.PropagateLemmas.{waiting_count}
use Rattle.odb_sched.proofs.report.propagate.Given as goal

-- failures are propagated, and no skipped request is ready
abbrev pub invariant-loop-u : goal.invariant-loop-u
invariant-loop-u l = record {
  propagating : ArePropagating l.graph.plan_graph l.phases l.counts.failed;
  ready : HasReady l.graph.plan_graph l.phases l.counts;
  rest : l.counts ≡ record l.initial.counts { failed = l.counts.failed; ready = l.counts.ready };
}

-- how many units were not taken yet
abbrev pub decreases-loop-u : goal.decreases-loop-u
decreases-loop-u l = waiting_count l.graph.plan_graph l.counts.failed
