use Rattle.std.proofs.Common.{◌≡◌, ◌≤◌, ◌==◌, take, count_by}
use Rattle.odb_check.specs.PlanGraph.{unit_needed, unit_of}
use Rattle.odb_sched.proofs.openings.inner_count.Given as goal

-- the needs so far that are on the unit were counted
abbrev pub invariant-loop-need : goal.invariant-loop-need
invariant-loop-need l = record {
  counted : l.count ≡ count_by (λ need. unit_needed (unit_of l.graph.plan_graph) need == l.u) (take l.need-index l.need-items);
  few : l.count ≤ l.need-index;
}
