use Rattle.std.proofs.Common.{◌≡◌, ℕ, ◌<◌, [], length, get_or, take}
use Rattle.odb_dense.specs.Starts.{at_key, below_key, AreParts}
use Rattle.odb_dense.proofs.rows.empty_rows.Given as goal

-- the pairs so far are counted
abbrev pub invariant-loop-key : goal.invariant-loop-key
invariant-loop-key l = record {
  room : length l.counts.items ≡ l.keys;
  counted : (k : ℕ) → k < length l.counts.items → get_or l.counts.items k 0 ≡ at_key k (take l.key-index l.pairs);
}

-- the keys so far have their empty rows
abbrev pub invariant-loop-key-2 : goal.invariant-loop-key-2
invariant-loop-key-2 l = record {
  count : length l.parts.items ≡ l.key;
  from : l.from ≡ below_key l.key l.pairs;
  empty : AreParts l.pairs [] l.parts.items;
}
