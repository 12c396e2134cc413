use Rattle.std.proofs.Common.{◌≡◌, ◌++◌, map, take}
use Rattle.odb_check.specs.Plans.{plan_graph}
use Rattle.odb_sched.specs.invariants.Dependents.{key_of}
use Rattle.odb_sched.proofs.graph.push_needs.Given as goal

-- the needs so far have their pairs
abbrev pub invariant-loop-need : goal.invariant-loop-need
invariant-loop-need l = l.pairs.items ≡ l.initial.pairs.items ++ map (λ need. (key_of (plan_graph l.plan) need, l.i)) (take l.need-index l.need-items)
