use Rattle.std.proofs.Common.{map}
use Rattle.odb_check.specs.Plans.{plan_records}
use Rattle.odb_send.specs.Answers.{answers_in}
use Rattle.odb_send.specs.Marks.{AreChanges}
use Rattle.odb_send.specs.Rests.{change_of}
use Rattle.odb_send.proofs.rest.changes_of.Given as goal

abbrev pub invariant-loop-i : goal.invariant-loop-i
invariant-loop-i l = AreChanges (plan_records l.plan) l.kept (answers_in l.answers) l.i (map change_of l.found.items)
