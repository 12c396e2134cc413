use Rattle.odb_reply.specs.Places.{AreMarks}
use Rattle.odb_check.specs.Plans.{plan_records}
use Rattle.odb_reply.specs.ResponseDocuments.{entries}
use Rattle.odb_reply.proofs.completed.marks_of.Given as goal

abbrev pub invariant-loop-at : goal.invariant-loop-at
invariant-loop-at l = AreMarks (plan_records l.plan) (entries l.responses) l.at l.marks.items
