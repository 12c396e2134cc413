use Rattle.std.proofs.Common.{◌≡◌, take}
use Rattle.odb_live.specs.LiveParts.{marks_after}
use Rattle.odb_live.proofs.run.parts.mark.Given as goal

-- the requests so far are marked
abbrev pub invariant-loop-i : goal.invariant-loop-i
invariant-loop-i l = l.out ≡ marks_after l.initial.out (take l.i-index l.positions)
