use Rattle.std.proofs.Common.{◌-◌, ◌≤◌}
use Rattle.odb_spans.proofs.front.Front.before.Given as goal

abbrev pub invariant-loop-at : goal.invariant-loop-at
invariant-loop-at l = record {
  within : l.at ≤ l.position;
  front : l.front.end ≤ l.at;
  second : l.second.end ≤ l.at;
  last : l.last.end ≤ l.at;
}

abbrev pub decreases-loop-at : goal.decreases-loop-at
decreases-loop-at l = l.position - l.at
