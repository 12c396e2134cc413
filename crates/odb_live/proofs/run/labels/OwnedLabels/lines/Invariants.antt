use Rattle.std.specs.Prelude.{◌≡◌, string_bytes}
use Rattle.odb_check.specs.Firsts.{joined_below}
use Rattle.odb_live.specs.LabelTables.{values_of}
use Rattle.odb_live.specs.Labels.{id_line}
use Rattle.odb_live.proofs.run.labels.OwnedLabels.lines.Given as goal

-- the lines of the requests so far
abbrev pub invariant-loop-label : goal.invariant-loop-label
invariant-loop-label l = string_bytes l.text ≡ joined_below l.label-index (id_line (values_of l.label-items))
