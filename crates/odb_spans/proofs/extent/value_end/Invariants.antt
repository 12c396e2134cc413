use Rattle.std.proofs.Common.{◌≡◌, ◌≤◌, ◌<◌, ◌+◌, ◌-◌, length, drop, get_or}
use Rattle.odb_spans.specs.Extents.{extent, value_extent}
use Rattle.odb_spans.specs.States.{mode_of, IsAfter}
use Rattle.odb_spans.proofs.extent.value_end.Given as goal

abbrev pub invariant-loop-end : goal.invariant-loop-end
invariant-loop-end l = record {
  so_far : l.at + value_extent (drop l.at l.text) ≡ l.end + extent (mode_of l.state.mode) l.state.depth (drop l.end l.text);
  within : l.end ≤ length l.text;
  some : l.at < l.end;
  few : l.state.depth ≤ l.end;
  after : IsAfter (get_or l.text (l.end - 1) 0) l.state.mode;
}

abbrev pub decreases-loop-end : goal.decreases-loop-end
decreases-loop-end l = length l.text - l.end
