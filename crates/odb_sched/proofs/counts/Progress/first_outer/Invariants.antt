use Rattle.std.proofs.Common.{◌≡◌, None, not, find}
use Rattle.odb_check.specs.Firsts.{joined_below}
use Rattle.odb_sched.specs.run.Steps.{satisfied_in}
use Rattle.odb_sched.specs.run.Units.{outer_needs_at}
use Rattle.odb_sched.proofs.counts.Progress.first_outer.Given as goal

-- of the members so far all needs on other units are satisfied
abbrev pub invariant-loop-i : goal.invariant-loop-i
invariant-loop-i l = find (λ need. not (satisfied_in l.graph.plan_graph l.self.phases.items need)) (joined_below l.i (outer_needs_at l.graph.plan_graph l.u)) ≡ None
