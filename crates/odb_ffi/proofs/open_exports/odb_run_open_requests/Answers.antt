-- A run that is opened with what is to be sent.
use Rattle.std.proofs.Common.{refl}
use Rattle.odb_engine.specs.Cascade.{Reports}
use Rattle.odb_engine.specs.declared.form.Form.TheVariants.{Lines}
use Rattle.odb_live.specs.Live.{IsLeastOfOpening}
use Rattle.odb_calls.specs.Openings.OpensBy.{NotOpened, Opened}
use Rattle.odb_calls.proofs.AnswerLemmas.{answer-reported}
use Rattle.odb_calls.proofs.ReturnLemmas.{returned}
use Rattle.odb_ffi.proofs.open_exports.odb_run_open_requests.Goals as goal

pub returns-in-Ok-clause-opened : goal.returns-in-Ok-clause-opened
returns-in-Ok-clause-opened c =
    Opened c.in-Some.policy c.in-Ok.live.value c.in-Ok.sent c.in-Some.ensures.some c.in-Ok.ensures.opened c.in-Ok.ensures.requests c.give_requests-status.ensures c.hold.ensures.held

pub returns-in-Err-clause-opened : goal.returns-in-Err-clause-opened
returns-in-Err-clause-opened c =
    let Is = IsLeastOfOpening c.in-Some.policy c.args.batch.now c.args.events.now in
    NotOpened c.in-Some.policy c.in-Some.ensures.some (returned (Reports Is Lines) c.of.result c.give.result c.give.new.text_length c.args.text.now c.give.new.buffer
    (answer-reported Is c.in-Err.halt c.of.result c.in-Err.ensures.least c.of.ensures) c.give.ensures.ok c.give.ensures.err) refl refl
