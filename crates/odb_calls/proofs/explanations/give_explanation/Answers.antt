-- The text that is given is the explanation.
use Rattle.std.proofs.Common.{sym}
use Rattle.odb_calls.specs.Explanations.Explains.{Explained}
use Rattle.odb_calls.proofs.explanations.give_explanation.Goals as goal

pub returns-in-Some : goal.returns-in-Some
returns-in-Some c = Explained c.in-Some.found.now (sym c.in-Some.ensures) c.give_text.ensures
