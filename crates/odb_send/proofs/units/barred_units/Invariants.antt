use Rattle.std.proofs.Common.{ℕ, Bool, length}
use Rattle.odb_check.specs.PlanGraph.{AreAnswers}
use Rattle.odb_check.specs.Plans.{plan_records}
use Rattle.odb_check.specs.Units.{unit_count}
use Rattle.odb_send.specs.Marks.{AreBarred}
use Rattle.odb_send.proofs.units.barred_units.Given as goal

-- the units, by the requests before i
abbrev pub invariant-loop-i : goal.invariant-loop-i
invariant-loop-i g l = (exempt test : ℕ → Bool) → AreAnswers (unit_count (plan_records l.plan)) (goal.E-post g l.is_exempt) exempt → AreAnswers (length (plan_records l.plan)) (goal.T-post g l.passes) test → AreBarred (plan_records l.plan) exempt test l.i l.units.items
