use Rattle.std.proofs.Common.{◌≡◌, ℕ, true, false, length, slice_index_or, count_by}
use Rattle.odb_sched.specs.invariants.Openings.{is_passed}
use Rattle.odb_sched.proofs.openings.Openings.first.Given as goal

-- only units that are passed over were removed
abbrev pub invariant-loop-u : goal.invariant-loop-u
invariant-loop-u l = record {
  rest : l.self ≡ record l.initial.self { free = l.self.free };
  each : length l.self.free ≡ length l.initial.self.free;
  sound : (u : ℕ) → slice_index_or l.self.free u false ≡ true → slice_index_or l.initial.self.free u false ≡ true;
  kept : (u : ℕ) → slice_index_or l.initial.self.free u false ≡ true → is_passed l.initial.self l.failed u ≡ false → slice_index_or l.self.free u false ≡ true;
}

-- how many units are left
abbrev pub decreases-loop-u : goal.decreases-loop-u
decreases-loop-u l = count_by (λ b. b) l.self.free
