use Rattle.odb_dense.specs.Bits.{members}
use Rattle.odb_dense.proofs.BitLemmas.{is_greatest}
use Rattle.odb_dense.proofs.bit_set.BitSet.greatest.Goals as goal

pub returns-clause-some : goal.returns-clause-some
returns-clause-some c = rw (← c.self.view_is) (is_greatest (members c.self.inside) c.self.inside.words.items c.self.inside.summary.items c.self.invariant c.last_at.result (rw (← c.deref-2.ensures.value) c.last_at.ensures))
