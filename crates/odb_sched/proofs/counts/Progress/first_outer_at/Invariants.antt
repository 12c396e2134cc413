use Rattle.std.proofs.Common.{◌≡◌, true, take, ◌||◌, not}
use Rattle.std.specs.List.{list_all}
use Rattle.odb_sched.specs.run.Steps.{satisfied_in}
use Rattle.odb_sched.specs.run.Units.{is_outer}
use Rattle.odb_sched.proofs.counts.Progress.first_outer_at.Given as goal

-- the needs so far are inner ones, or satisfied
abbrev pub invariant-loop-need : goal.invariant-loop-need
invariant-loop-need l = list_all (λ need. not (is_outer l.graph.plan_graph l.u need) || satisfied_in l.graph.plan_graph l.self.phases.items need) (take l.need-index l.needs) ≡ true
