use Rattle.std.proofs.Common.{◌≡◌, ◌++◌, string_bytes}
use Rattle.odb_check.specs.Firsts.{joined_below}
use Rattle.odb_check.specs.Plans.{plan_records}
use Rattle.odb_text.specs.Drawings.{level_line}
use Rattle.odb_text.proofs.drawing.push_levels.Given as goal

-- the lines of the levels so far
abbrev pub invariant-loop-level : goal.invariant-loop-level
invariant-loop-level l = string_bytes l.text ≡ string_bytes l.fn.text ++ joined_below l.level (level_line (plan_records l.plan))
