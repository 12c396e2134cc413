use Rattle.std.proofs.Common.{◌≡◌, drop}
use Rattle.std.specs.List.{list_any}
use Rattle.odb_check.specs.PlanGraph.{unit_needed}
use Rattle.odb_check.specs.Plans.{plan_records}
use Rattle.odb_check.specs.Units.{unit_at}
use Rattle.odb_send.specs.Units.{marked}
use Rattle.odb_send.proofs.units.needs_marked.Given as goal

-- the result is that of the remaining needs
abbrev pub invariant-loop-need : goal.invariant-loop-need
invariant-loop-need l = list_any (λ need. marked l.units (unit_needed (unit_at (plan_records l.plan)) need)) (drop l.need-index l.need-items) ≡ list_any (λ need. marked l.units (unit_needed (unit_at (plan_records l.plan)) need)) l.need-items
