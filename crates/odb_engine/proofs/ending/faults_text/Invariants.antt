use Rattle.std.proofs.Common.{◌≡◌, map, take}
use Rattle.odb_doc.specs.Refusals.{printed}
use Rattle.odb_text.specs.Lines.{printed_at, unlocated}
use Rattle.odb_engine.proofs.ending.faults_text.Given as goal

-- the faults so far
abbrev pub invariant-loop-refusal : goal.invariant-loop-refusal
invariant-loop-refusal l = map printed_at l.faults.items ≡ map unlocated (map printed (take l.refusal-index l.refusals))
