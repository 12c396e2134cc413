use Rattle.odb_check.specs.Plans.{plan_graph}
use Rattle.odb_sched.proofs.GraphLemmas.{AreSpansBelow}
use Rattle.odb_sched.proofs.graph.members_of.Given as goal

abbrev pub invariant-loop-u : goal.invariant-loop-u
invariant-loop-u l = AreSpansBelow (plan_graph l.plan) l.u l.members.items
