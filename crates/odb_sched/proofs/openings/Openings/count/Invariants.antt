use Rattle.std.proofs.Common.{◌≡◌, ◌<◌, ℕ, slice_index_or}
use Rattle.odb_sched.specs.invariants.Openings.{inner_count, waiting_below, HaveUnits}
use Rattle.odb_sched.proofs.openings.Openings.count.Given as goal

-- the needs and members so far are counted
abbrev pub invariant-loop-i : goal.invariant-loop-i
invariant-loop-i l = record {
  rest : l.self ≡ record l.initial.self { inner = l.self.inner; waiting = l.self.waiting };
  entries : HaveUnits l.graph.plan_graph l.self;
  inner : (k : ℕ) → k < l.i → slice_index_or l.self.inner.items k 0 ≡ inner_count l.graph.plan_graph k;
  waiting : (u : ℕ) → u < l.graph.plan_graph.unit_count → slice_index_or l.self.waiting.items u 0 ≡ waiting_below l.graph.plan_graph l.unmet l.i u;
}
