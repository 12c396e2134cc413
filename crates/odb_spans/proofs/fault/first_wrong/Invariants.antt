use Rattle.std.proofs.Common.{◌-◌, ◌≤◌, length}
use Rattle.odb_spans.proofs.fault.first_wrong.Given as goal

abbrev pub invariant-search : goal.invariant-search
invariant-search l = record {
  order : l.good ≤ l.bad;
  within : l.bad ≤ length l.text;
}

abbrev pub decreases-search : goal.decreases-search
decreases-search l = l.bad - l.good
