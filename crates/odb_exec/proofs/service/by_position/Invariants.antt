use Rattle.std.proofs.Common.{map}
use Rattle.odb_doc.specs.recorded.Outcomes.{recorded}
use Rattle.odb_check.specs.Plans.{plan_records}
use Rattle.odb_exec.proofs.RecordedLemmas.{AreNoted}
use Rattle.odb_exec.proofs.service.by_position.Given as goal

-- the last entries are noted
abbrev pub invariant-loop-id : goal.invariant-loop-id
invariant-loop-id l = AreNoted (plan_records l.plan) (map recorded l.fn.entries.items) (map recorded l.entries.items) l.outcomes.items

abbrev pub decreases-loop-id : goal.decreases-loop-id
decreases-loop-id l = goal.left-loop-id l
