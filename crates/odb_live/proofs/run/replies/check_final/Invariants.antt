use Rattle.std.proofs.Common.{◌<◌, ◌≤◌, ℕ}
use Rattle.std.specs.Prelude.{slice_index}
use Rattle.odb_reply.specs.Fits.{statuses}
use Rattle.odb_live.proofs.run.replies.check_final.Given as goal

-- the statuses so far are final
abbrev pub invariant-loop-k : goal.invariant-loop-k
invariant-loop-k l = (j : ℕ) → j < l.k → 200 ≤ slice_index (statuses l.table) j
