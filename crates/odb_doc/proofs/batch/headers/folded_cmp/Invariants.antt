use Rattle.std.proofs.Common.{◌≡◌, ◌≤◌, length}
use Rattle.odb_doc.proofs.LentLemmas.{cmp_from}
use Rattle.odb_doc.proofs.batch.headers.folded_cmp.Given as goal

-- what is left of the texts decides, and the second has all bytes so far
abbrev pub invariant-loop-k : goal.invariant-loop-k
invariant-loop-k l = record {
  same : cmp_from l.x l.y l.k ≡ cmp_from l.x l.y 0;
  within : l.k ≤ length l.y;
}
