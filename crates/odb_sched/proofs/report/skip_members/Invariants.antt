use Rattle.odb_sched.proofs.SkippedLemmas.{AreSkipped}
use Rattle.odb_sched.proofs.report.skip_members.Given as goal

-- the members so far are not ready
abbrev pub invariant-loop-i : goal.invariant-loop-i
invariant-loop-i l = AreSkipped l.graph.plan_graph l.phases l.u l.i l.initial.counts l.counts
