use Rattle.std.proofs.Common.{◌≡◌, ◌<◌, ◌≤◌, ◌+◌, ◌-◌, ℕ, get_or, count_by}
use Rattle.odb_sched.specs.declared.phase.Phase.TheVariants.{Unstarted, Running}
use Rattle.odb_sched.specs.declared.policy.Mode.{Mode}
use Rattle.odb_sched.specs.invariants.Counts.{AreCounts}
use Rattle.odb_sched.specs.run.State.{is_running}
use Rattle.odb_sched.specs.run.Steps.{stopped_in}
use Rattle.odb_sched.proofs.counts.Progress.begin_unit.Given as goal

-- the members so far run, and the other requests are as before
abbrev pub invariant-loop-i : goal.invariant-loop-i
invariant-loop-i l = record {
  before : (j : ℕ) → l.members.start ≤ j → j < l.i → get_or l.self.phases.items j Unstarted ≡ Running;
  others : (j : ℕ) → l.i ≤ j → get_or l.self.phases.items j Unstarted ≡ get_or l.initial.self.phases.items j Unstarted;
  earlier : (j : ℕ) → j < l.members.start → get_or l.self.phases.items j Unstarted ≡ get_or l.initial.self.phases.items j Unstarted;
  counts : AreCounts l.graph.plan_graph l.self.phases.items l.self.counts;
  running : count_by is_running l.self.phases.items ≡ count_by is_running l.initial.self.phases.items + (l.i - l.members.start);
  stopped : (mode : Mode) → stopped_in mode l.self.phases.items ≡ stopped_in mode l.initial.self.phases.items;
  rest : l.self ≡ record l.initial.self { phases = l.self.phases; counts = l.self.counts };
}
