use Rattle.std.proofs.Common.{◌≡◌}
use Rattle.odb_check.specs.Firsts.{list_below}
use Rattle.odb_live.specs.LiveParts.{seen_at}
use Rattle.odb_live.proofs.run.parts.states_of.Given as goal

-- the states of the requests so far
abbrev pub invariant-loop-i : goal.invariant-loop-i
invariant-loop-i l = l.found.items ≡ list_below l.i (seen_at l.run l.out)
