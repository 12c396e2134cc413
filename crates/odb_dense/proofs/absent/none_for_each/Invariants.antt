use Rattle.std.proofs.Common.{◌≡◌, replicate, None}
use Rattle.odb_dense.proofs.absent.none_for_each.Given as goal

abbrev pub invariant-loop : goal.invariant-loop
invariant-loop g l = l.values.items ≡ replicate l.counter None
