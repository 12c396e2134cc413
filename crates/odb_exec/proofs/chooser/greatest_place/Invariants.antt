use Rattle.std.proofs.Common.{◌<◌, ◌≤◌, length, slice_index_or, ℕ}
use Rattle.odb_exec.proofs.chooser.greatest_place.Given as goal

-- no position so far is above the one found
abbrev pub invariant-loop-place : goal.invariant-loop-place
invariant-loop-place l = record {
  within : l.greatest < length l.positions;
  greatest : (k : ℕ) → k < l.place → slice_index_or l.positions k 0 ≤ slice_index_or l.positions l.greatest 0;
}
