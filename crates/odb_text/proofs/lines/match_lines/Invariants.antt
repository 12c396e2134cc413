use Rattle.std.proofs.Common.{◌≡◌, ◌++◌, length, string_bytes}
use Rattle.odb_check.specs.Firsts.{joined_below}
use Rattle.odb_check.specs.Plans.{plan_records}
use Rattle.odb_text.specs.Lines.{fit_line, status_line}
use Rattle.odb_text.proofs.lines.match_lines.Given as goal

-- the lines of the requests so far
abbrev pub invariant-loop-i : goal.invariant-loop-i
invariant-loop-i l = string_bytes l.text ≡ fit_line (length (plan_records l.plan)) ++ joined_below l.i (status_line (plan_records l.plan) l.statuses)
