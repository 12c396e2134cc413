use Rattle.std.proofs.Common.{◌≡◌, ◌++◌, string_bytes}
use Rattle.odb_check.specs.Firsts.{joined_below}
use Rattle.odb_check.specs.Plans.{plan_records}
use Rattle.odb_text.specs.Drawings.{lines_at}
use Rattle.odb_text.proofs.drawing.push_requests.Given as goal

-- the lines of the requests so far
abbrev pub invariant-loop-i : goal.invariant-loop-i
invariant-loop-i l = string_bytes l.text ≡ string_bytes l.fn.text ++ joined_below l.i (lines_at (plan_records l.plan))
