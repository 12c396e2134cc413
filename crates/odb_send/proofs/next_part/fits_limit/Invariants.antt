use Rattle.std.specs.Prelude.{◌<◌, ◌≤◌, ℕ}
use Rattle.odb_check.specs.Plans.{plan_records}
use Rattle.odb_check.specs.Units.{unit_size}
use Rattle.odb_send.proofs.next_part.fits_limit.Given as goal

-- the units so far fit
abbrev pub invariant-loop-u : goal.invariant-loop-u
invariant-loop-u l = (v : ℕ) → v < l.u → unit_size (plan_records l.plan) v ≤ l.limit
