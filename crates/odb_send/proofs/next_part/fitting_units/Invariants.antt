use Rattle.odb_check.specs.Plans.{plan_records}
use Rattle.odb_send.specs.Marks.{AreFirst}
use Rattle.odb_send.proofs.next_part.fitting_units.Given as goal

abbrev pub invariant-loop-u : goal.invariant-loop-u
invariant-loop-u l = AreFirst (plan_records l.plan) l.done l.left l.limit l.u l.room l.units.items
