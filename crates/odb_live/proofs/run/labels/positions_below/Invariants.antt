use Rattle.std.specs.Prelude.{◌<◌, ℕ, All, Contains}
use Rattle.odb_live.proofs.run.labels.positions_below.Given as goal

-- the positions before i
abbrev pub invariant-loop-i : goal.invariant-loop-i
invariant-loop-i l = record { all : (k : ℕ) → k < l.i → Contains l.positions.items k; within : All (λ k. k < l.count) l.positions.items }
