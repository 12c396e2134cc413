use Rattle.odb_calls.proofs.StepLemmas.{adds-none}
use Rattle.odb_calls.proofs.steps.push_undone_unless.Goals as goal

pub returns-then-stops : goal.returns-then-stops
returns-then-stops c = rw c.if-stops.true (λ document. adds-none document c.args.steps.now.items)

pub returns : goal.returns
returns c = rw c.if-stops.false c.push_all_undone.ensures
