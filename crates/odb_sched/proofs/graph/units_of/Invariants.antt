use Rattle.std.proofs.Common.{◌≡◌, take}
use Rattle.odb_check.specs.Plans.{plan_graph}
use Rattle.odb_sched.proofs.graph.units_of.Given as goal

-- the units of the requests so far
abbrev pub invariant-loop-i : goal.invariant-loop-i
invariant-loop-i l = l.units.items ≡ take l.i (plan_graph l.plan).units
