use Rattle.std.proofs.Common.{◌≡◌, ◌<◌, ◌≤◌, ◌==◌, ℕ, false, length, slice_index_or}
use Rattle.odb_sched.proofs.counts.without_any.Given as goal

-- the numbers so far whose count is 0 are in the set, and none of the later ones
abbrev pub invariant-loop-i : goal.invariant-loop-i
invariant-loop-i l = record {
  each : length l.free ≡ l.len;
  before : (k : ℕ) → k < l.i → slice_index_or l.free k false ≡ (slice_index_or l.counts k 0 == 0);
  after : (k : ℕ) → l.i ≤ k → slice_index_or l.free k false ≡ false;
}
