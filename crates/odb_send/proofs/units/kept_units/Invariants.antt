use Rattle.odb_send.specs.Marks.{AreKept}
use Rattle.odb_send.proofs.units.kept_units.Given as goal

abbrev pub invariant-loop-u : goal.invariant-loop-u
invariant-loop-u l = AreKept l.done.items l.left_out.items l.u l.kept.items
