use Rattle.std.proofs.Common.{◌≡◌, ◌≤◌, ◌+◌, take}
use Rattle.std.specs.Prelude.{count_by}
use Rattle.odb_spans.specs.Positions.{is_newline}
use Rattle.odb_spans.proofs.position.counted_line.Given as goal

abbrev pub invariant-loop-at : goal.invariant-loop-at
invariant-loop-at l = record {
  line : l.line ≡ 1 + count_by is_newline (take l.at l.text);
  few : l.line ≤ 1 + l.at;
}
