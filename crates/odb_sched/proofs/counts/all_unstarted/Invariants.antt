use Rattle.std.proofs.Common.{◌≡◌, replicate}
use Rattle.odb_sched.specs.declared.phase.Phase.TheVariants.{Unstarted}
use Rattle.odb_sched.proofs.counts.all_unstarted.Given as goal

abbrev pub invariant-loop : goal.invariant-loop
invariant-loop l = l.phases.items ≡ replicate l.counter Unstarted
