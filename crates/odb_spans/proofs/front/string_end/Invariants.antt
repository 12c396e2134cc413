use Rattle.std.proofs.Common.{◌-◌, ◌≤◌}
use Rattle.odb_spans.proofs.front.string_end.Given as goal

abbrev pub invariant-loop-at : goal.invariant-loop-at
invariant-loop-at l = record {
  after : l.from ≤ l.at;
  within : l.at ≤ l.end;
}

abbrev pub decreases-loop-at : goal.decreases-loop-at
decreases-loop-at l = l.end - l.at
