use Rattle.std.proofs.Common.{◌+◌, string_bytes, ap}
use Rattle.odb_check.specs.Firsts.{joined_below}
use Rattle.odb_check.specs.Plans.{plan_records}
use Rattle.odb_text.specs.Drawings.{below_line, row_lines}
use Rattle.odb_text.proofs.DrawingLemmas.{lines_more}
use Rattle.odb_text.proofs.drawing.push_rows.Goals as goal

pub loop-level-preserved : goal.loop-level-preserved
loop-level-preserved c =
    let level = c.loop-level.level in
    lines_more (row_lines (plan_records c.args.plan.now)) level (string_bytes c.args.text.now) (string_bytes c.loop-level.text) (string_bytes c.push_rows_of.new.text) _
    c.loop-level.invariant c.in_ok-push_rows_of.ensures (ap (λ end. joined_below end (λ row. below_line level row level (row + 1))) c.end_of.ensures)
