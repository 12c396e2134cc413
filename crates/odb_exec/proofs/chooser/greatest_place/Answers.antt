use Rattle.std.proofs.Common.{arith}
use Rattle.odb_exec.proofs.ChoiceLemmas.{greatest-from}
use Rattle.odb_exec.proofs.chooser.greatest_place.Goals as goal

pub returns-clause-greatest : goal.returns-clause-greatest
returns-clause-greatest c = greatest-from c.args.positions.now c.loop-place.greatest c.loop-place.invariant.within
    (λ k within. c.loop-place.invariant.greatest k (let ended = c.loop-place-test.false in omega arith))
