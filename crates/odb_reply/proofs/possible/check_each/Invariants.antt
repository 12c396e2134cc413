use Rattle.std.proofs.Common.{ℕ, ◌<◌}
use Rattle.odb_check.specs.Plans.{plan_graph}
use Rattle.odb_reply.specs.Fits.{statuses}
use Rattle.odb_reply.specs.Starts.{HaveStarts, IsSound}
use Rattle.odb_reply.specs.StatusFaults.{status_at}
use Rattle.odb_reply.specs.declared.strictness.Strictness.{Strictness}
use Rattle.odb_reply.proofs.possible.check_each.Given as goal

-- the requests before i break no rule
abbrev pub invariant-loop-i : goal.invariant-loop-i
invariant-loop-i l = (by : Strictness) → HaveStarts by (plan_graph l.plan) (status_at (statuses l.table)) l.units l.started → (k : ℕ) → k < l.i → IsSound by (plan_graph l.plan) (status_at (statuses l.table)) k
