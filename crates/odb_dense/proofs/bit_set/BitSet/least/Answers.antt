use Rattle.odb_dense.specs.Bits.{members}
use Rattle.odb_dense.proofs.BitLemmas.{is_least}
use Rattle.odb_dense.proofs.bit_set.BitSet.least.Goals as goal

pub returns-clause-some : goal.returns-clause-some
returns-clause-some c = rw (← c.self.view_is) (is_least (members c.self.inside) c.self.inside.words.items c.self.inside.summary.items c.self.invariant c.first_at.result (rw (← c.deref-2.ensures.value) c.first_at.ensures))
