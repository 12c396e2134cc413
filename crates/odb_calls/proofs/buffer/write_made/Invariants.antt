use Rattle.std.proofs.Common.{◌≡◌}
use Rattle.odb_calls.proofs.BufferLemmas.{written}
use Rattle.odb_calls.proofs.buffer.write_made.Given as goal

-- what is made of the items so far is written
abbrev pub invariant-loop-i : goal.invariant-loop-i
invariant-loop-i g l = (made : g.row.P.Denot → g.row.T.Denot) → ((item : g.row.P.Denot) (t : g.row.T.Denot) → goal.F-post g l.make item t → t ≡ made item) → l.buffer ≡ written made l.items l.initial.buffer l.i
