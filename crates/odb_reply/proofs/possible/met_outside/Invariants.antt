use Rattle.std.proofs.Common.{◌≡◌, drop}
use Rattle.std.specs.List.{list_all}
use Rattle.odb_check.specs.Plans.{plan_graph}
use Rattle.odb_reply.specs.Fits.{statuses}
use Rattle.odb_reply.specs.Starts.{is_met_outside}
use Rattle.odb_reply.specs.StatusFaults.{status_at}
use Rattle.odb_reply.proofs.possible.met_outside.Given as goal

-- the result is that of the remaining needs
abbrev pub invariant-loop-need : goal.invariant-loop-need
invariant-loop-need l = list_all (is_met_outside (plan_graph l.plan) (status_at (statuses l.table)) l.units l.i) (drop l.need-index l.need-items)
    ≡ list_all (is_met_outside (plan_graph l.plan) (status_at (statuses l.table)) l.units l.i) l.need-items
