use Rattle.std.proofs.Common.{◌≡◌, drop}
use Rattle.std.specs.List.{list_all}
use Rattle.odb_check.specs.Plans.{plan_graph}
use Rattle.odb_reply.specs.Fits.{statuses}
use Rattle.odb_reply.specs.Starts.{can_have_succeeded}
use Rattle.odb_reply.specs.StatusFaults.{status_at}
use Rattle.odb_reply.proofs.possible.can_start.Given as goal

-- the result is that of the remaining needs
abbrev pub invariant-loop-need : goal.invariant-loop-need
invariant-loop-need l = list_all (can_have_succeeded (plan_graph l.plan) (status_at (statuses l.table)) l.units l.started l.i) (drop l.need-index l.need-items)
    ≡ list_all (can_have_succeeded (plan_graph l.plan) (status_at (statuses l.table)) l.units l.started l.i) l.need-items
