use Rattle.odb_calls.specs.Returns.ReturnsBy.{Named}
use Rattle.odb_ffi.proofs.exports.odb_match_with.Goals as goal

pub returns-in-Some : goal.returns-in-Some
returns-in-Some c = Named c.in-Some.task c.in-Some.ensures.some c.answer_as.ensures
