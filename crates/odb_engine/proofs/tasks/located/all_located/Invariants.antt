use Rattle.std.proofs.Common.{map, take}
use Rattle.odb_doc.specs.Refusals.{printed}
use Rattle.odb_text.specs.Lines.{printed_at}
use Rattle.odb_engine.specs.Located.{AreLocated}
use Rattle.odb_engine.proofs.tasks.located.all_located.Given as goal

-- the faults so far
abbrev pub invariant-loop-at : goal.invariant-loop-at
invariant-loop-at l = AreLocated l.number l.document (map printed (take l.at l.refusals)) (map printed_at l.faults.items)
