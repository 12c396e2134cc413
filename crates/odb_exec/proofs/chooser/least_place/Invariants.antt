use Rattle.std.proofs.Common.{◌<◌, ◌≤◌, length, slice_index_or, ℕ}
use Rattle.odb_exec.proofs.chooser.least_place.Given as goal

-- no position so far is below the one found
abbrev pub invariant-loop-place : goal.invariant-loop-place
invariant-loop-place l = record {
  within : l.least < length l.positions;
  least : (k : ℕ) → k < l.place → slice_index_or l.positions l.least 0 ≤ slice_index_or l.positions k 0;
}
