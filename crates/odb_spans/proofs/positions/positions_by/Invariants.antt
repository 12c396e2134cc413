use Rattle.std.proofs.Common.{take}
use Rattle.std.specs.List.{AllZip}
use Rattle.odb_doc.specs.declared.refusal.Refusal.{Refusal}
use Rattle.odb_spans.specs.Positions.{IsPosition, Stands}
use Rattle.odb_spans.proofs.positions.positions_by.Given as goal

abbrev pub invariant-loop-fault : goal.invariant-loop-fault
invariant-loop-fault l = record {
  counts : IsPosition l.document l.last;
  stand : AllZip (λ (fault : Refusal). Stands l.document fault.place) (take l.fault-index l.faults) l.positions.items;
}
