use Rattle.std.proofs.Common.{refl}
use Rattle.odb_engine.specs.Cascade.{Reports}
use Rattle.odb_engine.specs.declared.form.Form.TheVariants.{Lines}
use Rattle.odb_live.specs.Live.{IsLeastOfOpening}
use Rattle.odb_calls.specs.Live.Opening.{Opened, NotOpened}
use Rattle.odb_calls.specs.Returns.ReturnsBy.{Named}
use Rattle.odb_calls.proofs.AnswerLemmas.{answer-reported}
use Rattle.odb_calls.proofs.ReturnLemmas.{returned}
use Rattle.odb_ffi.proofs.run_exports.odb_run_open.Goals as goal

pub returns-in-Ok-clause-opened : goal.returns-in-Ok-clause-opened
returns-in-Ok-clause-opened c = Named c.in-Some.policy c.in-Some.ensures.some (Opened c.in-Ok.handle.value c.of.ensures c.in-Ok.ensures.opened refl refl refl)

pub returns-in-Err-clause-opened : goal.returns-in-Err-clause-opened
returns-in-Err-clause-opened c =
    let Is = IsLeastOfOpening c.in-Some.policy c.args.batch.now c.args.events.now in
    Named c.in-Some.policy c.in-Some.ensures.some (NotOpened (returned (Reports Is Lines) c.of-in-Err.result c.give.result c.give.new.text_length c.args.text.now c.give.new.buffer
    (answer-reported Is c.in-Err.halt c.of-in-Err.result c.in-Err.ensures.least c.of-in-Err.ensures) c.give.ensures.ok c.give.ensures.err))
