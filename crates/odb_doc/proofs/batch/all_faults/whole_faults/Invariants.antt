use Rattle.std.proofs.Common.{◌+◌}
use Rattle.serde_json.specs.View.{view}
use Rattle.odb_doc.specs.ListsBelow.{ListsBelow, IsWholeFault}
use Rattle.odb_doc.specs.batch.ShapeFaults.{shape_place}
use Rattle.odb_doc.proofs.batch.all_faults.whole_faults.Given as goal

-- the faults of the rules so far
abbrev pub invariant-loop-rule : goal.invariant-loop-rule
invariant-loop-rule l = ListsBelow shape_place (IsWholeFault (view l.document)) (0, 3 + l.rule-index) l.faults.items
