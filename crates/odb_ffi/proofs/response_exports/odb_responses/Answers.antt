-- The responses in a document, for C.
use Rattle.std.proofs.Common.{refl}
use Rattle.odb_engine.specs.Cascade.{Reports}
use Rattle.odb_live.specs.ServiceResponses.{IsLeastOfResponses}
use Rattle.odb_engine.specs.declared.form.Form.TheVariants.{Lines}
use Rattle.odb_calls.specs.Responses.GivesResponses.{Given, NotGiven}
use Rattle.odb_calls.proofs.AnswerLemmas.{answer-reported}
use Rattle.odb_calls.proofs.ReturnLemmas.{returned}
use Rattle.odb_ffi.proofs.response_exports.odb_responses.Goals as goal

pub returns-in-Ok : goal.returns-in-Ok
returns-in-Ok c = Given c.in-Ok.found c.in-Ok.ensures.responses c.give_responses.ensures

pub returns-in-Err : goal.returns-in-Err
returns-in-Err c =
    let Is = IsLeastOfResponses c.args.document.now in
    NotGiven (returned (Reports Is Lines) c.of.result c.give.result c.give.new.text_length c.args.text.now c.give.new.buffer
    (answer-reported Is c.in-Err.halt c.of.result c.in-Err.ensures.least c.of.ensures) c.give.ensures.ok c.give.ensures.err) refl refl
