use Rattle.odb_calls.specs.Returns.ReturnsBy.{Named}
use Rattle.odb_calls.proofs.answer.answer_as.Goals as goal

pub returns-in-Some : goal.returns-in-Some
returns-in-Some c = Named c.in-Some.form c.in-Some.ensures.some c.answer.ensures
