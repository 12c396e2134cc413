use Rattle.std.proofs.Common.{◌≡◌, ◌<◌, ◌≤◌, ◌+◌, ◌-◌, ℕ, length, slice_index_or}
use Rattle.odb_calls.proofs.positions.write_span.Given as goal

-- the numbers so far are written, and the rest of the buffer is as it was
abbrev pub invariant-loop-i : goal.invariant-loop-i
invariant-loop-i l = record {
  each : length l.buffer ≡ length l.initial.buffer;
  begins : (k : ℕ) → k < l.i - l.from → slice_index_or l.buffer k 0 ≡ l.from + k;
  rest : (k : ℕ) → l.i - l.from ≤ k → slice_index_or l.buffer k 0 ≡ slice_index_or l.initial.buffer k 0;
}
