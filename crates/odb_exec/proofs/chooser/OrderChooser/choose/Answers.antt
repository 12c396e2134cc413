-- An order reports first exactly when some request runs, or starts first exactly when some is ready.
use Rattle.std.proofs.Common.{sym, ◌∙◌}
use Rattle.odb_exec.proofs.ChoiceLemmas.{none-empty}
use Rattle.odb_exec.proofs.chooser.OrderChooser.choose.Goals as goal

pub returns-in-First-clause-allowed : goal.returns-in-First-clause-allowed
returns-in-First-clause-allowed c = rw c.in-First.is (none-empty c.args.running.now (sym c.is_empty.ensures ∙ c.if-is_empty.true), c.least_place.ensures.least)

pub returns-in-Last-clause-allowed : goal.returns-in-Last-clause-allowed
returns-in-Last-clause-allowed c = rw c.in-Last.is (none-empty c.args.running.now (sym c.if-is_empty-2.ensures), c.greatest_place.ensures.greatest)

pub returns-in-Wide-clause-allowed : goal.returns-in-Wide-clause-allowed
returns-in-Wide-clause-allowed c = rw c.in-Wide.is (none-empty c.args.ready.now (sym c.if-is_empty-3.ensures), c.least_place-in-Wide.ensures.least)
