use Rattle.std.proofs.Common.{ℕ, Bool, length}
use Rattle.odb_check.specs.PlanGraph.{AreAnswers, ArePassing}
use Rattle.odb_check.specs.Plans.{plan_graph}
use Rattle.odb_check.proofs.plan.Plan.passing_units.Given as goal

-- the units, by the requests before i
abbrev pub invariant-loop-i : goal.invariant-loop-i
invariant-loop-i g l = (test : ℕ → Bool) → AreAnswers (length (plan_graph l.self).units) (goal.F-post g l.passes) test → ArePassing (plan_graph l.self) test l.i l.units.items
