use Rattle.std.proofs.Common.{map}
use Rattle.serde_json.specs.View.{view}
use Rattle.odb_doc.specs.ListsBelow.{ListsBelow, IsRequestFault}
use Rattle.odb_doc.specs.batch.ShapeFaults.{shape_place}
use Rattle.odb_doc.proofs.batch.all_faults.request_faults.Given as goal

-- the faults of the elements so far
abbrev pub invariant-loop-at : goal.invariant-loop-at
invariant-loop-at l = ListsBelow shape_place (IsRequestFault (map view l.elements)) (l.at, 0) l.faults.items
