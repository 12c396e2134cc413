use Rattle.std.proofs.Common.{◌≡◌, ◌<◌, All}
use Rattle.odb_check.specs.Firsts.{list_below}
use Rattle.odb_sched.specs.invariants.Counts.{members_in}
use Rattle.odb_sched.proofs.counts.member_counts.Given as goal

-- the members of the units so far are counted
abbrev pub invariant-loop-u : goal.invariant-loop-u
invariant-loop-u l = record {
  counts : l.counts.items ≡ list_below l.u (members_in l.graph.plan_graph);
  some : All (λ count. 0 < count) l.counts.items;
}
