use Rattle.std.proofs.Common.{◌≡◌}
use Rattle.odb_check.specs.Firsts.{list_below}
use Rattle.odb_sched.specs.invariants.Counts.{needs_in}
use Rattle.odb_sched.proofs.counts.need_counts.Given as goal

-- the needs of the requests so far are counted
abbrev pub invariant-loop-i : goal.invariant-loop-i
invariant-loop-i l = l.counts.items ≡ list_below l.i (needs_in l.graph.plan_graph)
