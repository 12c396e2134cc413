use Rattle.std.proofs.Common.{◌≡◌, ◌+◌, List, Some}
use Rattle.std.specs.Prelude.{slice_get}
use Rattle.serde_json.specs.Data.{Data}
use Rattle.odb_doc.specs.Asked.{asked}
use Rattle.odb_doc.specs.ListsBelow.{ListsBelow, IsRequestFault}
use Rattle.odb_doc.specs.batch.ShapeFaults.{shape_place}
use Rattle.odb_doc.proofs.batch.all_faults.push_faults.Given as goal

-- the faults of the rules so far
abbrev pub invariant-loop-rule : goal.invariant-loop-rule
invariant-loop-rule l = (ds : List Data) → slice_get ds l.at ≡ Some (asked l.request) → ListsBelow shape_place (IsRequestFault ds) (l.at, 0) l.fn.faults.items → ListsBelow shape_place (IsRequestFault ds) (l.at, 10 + l.rule-index) l.faults.items
