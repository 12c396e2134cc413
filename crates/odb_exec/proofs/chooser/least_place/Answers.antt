use Rattle.std.proofs.Common.{arith}
use Rattle.std.proofs.lemmas.Grind.{common_steps}
use Rattle.odb_exec.proofs.ChoiceLemmas.{least-from}
use Rattle.odb_exec.proofs.chooser.least_place.Goals as goal

pub returns-clause-least : goal.returns-clause-least
returns-clause-least c = least-from c.args.positions.now c.loop-place.least c.loop-place.invariant.within
    (λ k within. c.loop-place.invariant.least k (let ended = c.loop-place-test.false in omega arith))

pub loop-place-preserved : goal.loop-place-preserved
loop-place-preserved c = grind (arith, common_steps)
