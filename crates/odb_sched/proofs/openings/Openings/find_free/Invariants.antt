use Rattle.std.proofs.Common.{◌≡◌, ◌<◌, ◌==◌, ℕ, false, length, slice_index_or}
use Rattle.odb_sched.proofs.openings.Openings.find_free.Given as goal

-- of the units so far those without such members are free
abbrev pub invariant-loop-u : goal.invariant-loop-u
invariant-loop-u l = record {
  rest : l.self ≡ record l.initial.self { free = l.self.free };
  each : length l.self.free ≡ length l.initial.self.free;
  before : (v : ℕ) → v < l.u → slice_index_or l.self.free v false ≡ (slice_index_or l.initial.self.waiting.items v 0 == 0);
}
