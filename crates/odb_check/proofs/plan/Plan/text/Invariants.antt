use Rattle.std.proofs.Common.{◌≡◌}
use Rattle.std.specs.Prelude.{string_bytes}
use Rattle.odb_check.specs.Firsts.{joined_below}
use Rattle.odb_check.specs.Plans.{plan_records}
use Rattle.odb_check.specs.Texts.{plan_line}
use Rattle.odb_check.proofs.plan.Plan.text.Given as goal

-- the lines of the requests before i
abbrev pub invariant-loop-i : goal.invariant-loop-i
invariant-loop-i l = string_bytes l.text ≡ joined_below l.i (plan_line (plan_records l.self))
