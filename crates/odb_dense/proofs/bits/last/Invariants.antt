use Rattle.std.proofs.Common.{◌≡◌, ◌≤◌, ℕ, slice_index_or}
use Rattle.odb_dense.proofs.bits.last.Given as goal

abbrev pub invariant-loop-at : goal.invariant-loop-at
invariant-loop-at l = (k : ℕ) → l.at ≤ k → slice_index_or l.words k 0 ≡ 0
