use Rattle.std.proofs.Common.{◌≡◌}
use Rattle.odb_check.specs.Firsts.{joined_below}
use Rattle.odb_check.specs.Plans.{plan_graph}
use Rattle.odb_sched.specs.invariants.Graphs.{need_pairs}
use Rattle.odb_sched.proofs.graph.pairs_of.Given as goal

-- the requests so far have their pairs
abbrev pub invariant-loop-i : goal.invariant-loop-i
invariant-loop-i l = l.pairs.items ≡ joined_below l.i (need_pairs (plan_graph l.plan))
