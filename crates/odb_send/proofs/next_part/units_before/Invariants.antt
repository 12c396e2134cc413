use Rattle.std.proofs.Common.{◌≡◌}
use Rattle.odb_check.specs.Firsts.{list_below}
use Rattle.odb_send.specs.Marks.{marked_before}
use Rattle.odb_send.proofs.next_part.units_before.Given as goal

-- the marks so far
abbrev pub invariant-loop-u : goal.invariant-loop-u
invariant-loop-u l = l.kept.items ≡ list_below l.u (marked_before l.units l.end)
