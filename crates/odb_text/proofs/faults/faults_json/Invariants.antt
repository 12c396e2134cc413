use Rattle.std.proofs.Common.{◌≡◌, ◌++◌, codes, false, length, nat_lt, string_bytes, take}
use Rattle.odb_text.proofs.FaultLemmas.{objects}
use Rattle.odb_text.proofs.ResultLemmas.{opened}
use Rattle.odb_text.proofs.faults.faults_json.Given as goal

-- the faults so far
abbrev pub invariant-loop-fault : goal.invariant-loop-fault
invariant-loop-fault l = record {
  text : string_bytes l.text ≡ codes "{\"faults\":[" ++ opened false (objects (take l.fault-index l.faults));
  later : l.later ≡ nat_lt 0 (length (objects (take l.fault-index l.faults)));
}
