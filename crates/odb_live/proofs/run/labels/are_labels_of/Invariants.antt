use Rattle.std.specs.Prelude.{◌≡◌, take}
use Rattle.odb_check.specs.Plans.{plan_records}
use Rattle.odb_live.specs.LabelTables.{values_of}
use Rattle.odb_reply.specs.Responses.{labels_of}
use Rattle.odb_live.proofs.run.labels.are_labels_of.Given as goal

-- the first labels are those of the first requests
abbrev pub invariant-loop-i : goal.invariant-loop-i
invariant-loop-i l = values_of (take l.i l.labels) ≡ labels_of (take l.i (plan_records l.plan))
