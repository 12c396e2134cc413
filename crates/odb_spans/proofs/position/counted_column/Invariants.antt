use Rattle.std.proofs.Common.{◌≡◌, ◌≤◌, ◌+◌, take}
use Rattle.std.specs.Prelude.{count_by}
use Rattle.std.specs.List.{after_last}
use Rattle.odb_spans.specs.Positions.{begins_character, is_newline}
use Rattle.odb_spans.proofs.position.counted_column.Given as goal

abbrev pub invariant-loop-at : goal.invariant-loop-at
invariant-loop-at l = record {
  column : l.column ≡ 1 + count_by begins_character (after_last is_newline (take l.at l.text));
  few : l.column ≤ 1 + l.at;
}
