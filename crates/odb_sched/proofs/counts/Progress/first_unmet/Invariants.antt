use Rattle.std.proofs.Common.{◌≡◌, true, take}
use Rattle.std.specs.List.{list_all}
use Rattle.odb_sched.specs.run.Steps.{satisfied_in}
use Rattle.odb_sched.proofs.counts.Progress.first_unmet.Given as goal

-- the needs so far are satisfied
abbrev pub invariant-loop-need : goal.invariant-loop-need
invariant-loop-need l = list_all (satisfied_in l.graph.plan_graph l.self.phases.items) (take l.need-index l.needs) ≡ true
