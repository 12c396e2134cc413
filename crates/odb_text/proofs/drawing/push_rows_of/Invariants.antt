use Rattle.std.proofs.Common.{◌≡◌, ◌+◌, ◌++◌, string_bytes}
use Rattle.odb_check.specs.Firsts.{joined_below}
use Rattle.odb_text.specs.Drawings.{below_line}
use Rattle.odb_text.proofs.drawing.push_rows_of.Given as goal

-- the lines of the rows so far
abbrev pub invariant-loop-row : goal.invariant-loop-row
invariant-loop-row l = string_bytes l.text ≡ string_bytes l.fn.text ++ joined_below l.row (λ row. below_line l.level row l.level (row + 1))
