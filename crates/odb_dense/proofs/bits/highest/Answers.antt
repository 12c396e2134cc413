use Rattle.odb_dense.proofs.BitLemmas.{none_above}
use Rattle.odb_dense.proofs.bits.highest.Goals as goal

pub returns-clause-above : goal.returns-clause-above
returns-clause-above c k above = none_above c.args.word c.ilog2.result k c.ilog2.ensures.next_power_gt above
