use Rattle.std.proofs.Common.{◌≡◌, take}
use Rattle.std.specs.List.{filter}
use Rattle.odb_check.specs.Plans.{plan_records}
use Rattle.odb_doc.specs.Names.{texts_in}
use Rattle.odb_send.specs.Rests.{is_kept_name}
use Rattle.odb_send.proofs.names.kept_names.Given as goal

-- those of the names so far
abbrev pub invariant-loop-k : goal.invariant-loop-k
invariant-loop-k l = texts_in l.found.items ≡ filter (is_kept_name (plan_records l.plan) l.kept) (texts_in (take l.k l.names))
