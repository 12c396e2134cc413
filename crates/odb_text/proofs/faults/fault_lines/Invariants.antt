use Rattle.std.proofs.Common.{◌≡◌, map, string_bytes, take}
use Rattle.odb_text.specs.Lines.{located_lines, printed_at}
use Rattle.odb_text.proofs.faults.fault_lines.Given as goal

-- the lines so far
abbrev pub invariant-loop-fault : goal.invariant-loop-fault
invariant-loop-fault l = string_bytes l.text ≡ located_lines l.name (map printed_at (take l.fault-index l.faults))
