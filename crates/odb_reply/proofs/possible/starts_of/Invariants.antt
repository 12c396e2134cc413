use Rattle.odb_check.specs.Plans.{plan_graph}
use Rattle.odb_reply.specs.Fits.{statuses}
use Rattle.odb_reply.specs.Starts.{AreStarts}
use Rattle.odb_reply.specs.StatusFaults.{status_at}
use Rattle.odb_reply.proofs.possible.starts_of.Given as goal

abbrev pub invariant-loop-i : goal.invariant-loop-i
invariant-loop-i l = AreStarts (plan_graph l.plan) (status_at (statuses l.table)) l.units l.sent l.i l.started.items
