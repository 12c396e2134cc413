use Rattle.std.proofs.Common.{◌≡◌, ◌<◌, ◌+◌, ℕ, Some, length, slice_get}
use Rattle.odb_check.specs.Firsts.{list_below}
use Rattle.odb_check.specs.Plans.{plan_records}
use Rattle.odb_text.specs.Rows.{last_row, row_at}
use Rattle.odb_text.proofs.rows.rows_of.Given as goal

-- the rows of the requests so far, and the last row of each level
abbrev pub invariant-loop-i : goal.invariant-loop-i
invariant-loop-i l = record {
  levels : length l.of_levels.items ≡ l.greatest + 1;
  ends : (level : ℕ) → level < length l.of_levels.items → slice_get l.of_levels.items level ≡ Some (last_row (plan_records l.plan) level l.i);
  rows : l.of_requests.items ≡ list_below l.i (row_at (plan_records l.plan));
}
