use Rattle.std.proofs.Common.{map, string_bytes, take}
use Rattle.odb_doc.specs.Refusals.{printed}
use Rattle.odb_calls.specs.Faults.{AreFaults}
use Rattle.odb_calls.proofs.faults.located.Given as goal

-- the faults so far
abbrev pub invariant-loop-at : goal.invariant-loop-at
invariant-loop-at l = AreFaults l.document (map printed (take l.at l.refusals)) (string_bytes l.text) l.faults.items
