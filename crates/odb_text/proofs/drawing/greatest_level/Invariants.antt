use Rattle.std.proofs.Common.{◌≡◌}
use Rattle.odb_check.specs.Levels.{greatest_below, level_at}
use Rattle.odb_check.specs.Plans.{plan_records}
use Rattle.odb_text.proofs.drawing.greatest_level.Given as goal

-- the greatest level so far
abbrev pub invariant-loop-i : goal.invariant-loop-i
invariant-loop-i l = l.greatest ≡ greatest_below l.i (level_at (plan_records l.plan))
