use Rattle.std.proofs.Common.{◌≡◌, length, take}
use Rattle.odb_dense.specs.Starts.{AreParts, AreRowsOf}
use Rattle.odb_dense.proofs.rows.filled.Given as goal

-- the numbers of the pairs so far are in their rows
abbrev pub invariant-loop-key : goal.invariant-loop-key
invariant-loop-key l = record {
  room : length l.flat.items ≡ length l.pairs;
  keys : length l.parts.items ≡ length l.initial.parts.items;
  parts : AreParts l.pairs (take l.key-index l.pairs) l.parts.items;
  rows : AreRowsOf l.pairs (take l.key-index l.pairs) l.flat.items;
}
