use Rattle.std.proofs.Common.{◌≡◌, ℕ, ◌<◌, ◌+◌, ◌==◌, length, take, count_by, slice_index_or}
use Rattle.odb_sched.specs.invariants.Counts.{HasReady}
use Rattle.odb_sched.specs.invariants.Openings.{AreOpenings}
use Rattle.odb_sched.proofs.report.satisfy_each.Given as goal

-- the counts have fallen by the entries so far, and nothing else has changed but what is ready and what is counted of units
abbrev pub invariant-loop-i : goal.invariant-loop-i
invariant-loop-i l = record {
  rest : l.counts ≡ record l.initial.counts { unmet = l.counts.unmet; ready = l.counts.ready; openings = l.counts.openings };
  ready : HasReady l.graph.plan_graph l.phases l.counts;
  openings : AreOpenings l.graph.plan_graph l.phases l.counts.unmet.items l.counts.openings;
  fallen : (i : ℕ) → i < length l.graph.plan_graph.units → slice_index_or l.counts.unmet.items i 0 + count_by (λ j. j == i) (take l.i-index l.list) ≡ slice_index_or l.initial.counts.unmet.items i 0;
}
