use Rattle.std.specs.Prelude.{◌≡◌, take}
use Rattle.odb_check.specs.Plans.{plan_records}
use Rattle.odb_live.specs.LabelTables.{values_of}
use Rattle.odb_reply.specs.Responses.{labels_of}
use Rattle.odb_live.proofs.run.labels.labels_in.Given as goal

-- the labels of the requests so far
abbrev pub invariant-loop-i : goal.invariant-loop-i
invariant-loop-i l = values_of l.labels.items ≡ labels_of (take l.i (plan_records l.plan))
