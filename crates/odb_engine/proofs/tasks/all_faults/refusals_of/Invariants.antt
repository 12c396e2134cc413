use Rattle.std.proofs.Common.{◌≡◌, map, take}
use Rattle.std.specs.List.{filter_map}
use Rattle.odb_doc.specs.Refusals.{printed}
use Rattle.odb_engine.proofs.tasks.all_faults.refusals_of.Given as goal

-- the faults so far
abbrev pub invariant-loop-fault : goal.invariant-loop-fault
invariant-loop-fault g l = map printed l.found.items ≡ filter_map g.F.Fault.row (take l.fault-index l.faults)
