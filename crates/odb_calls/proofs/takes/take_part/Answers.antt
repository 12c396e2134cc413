use Rattle.std.proofs.Common.{Bool, Ok, ap, refl}
use Rattle.odb_engine.specs.Cascade.{Reports}
use Rattle.odb_engine.specs.declared.form.Form.TheVariants.{Lines}
use Rattle.odb_calls.specs.Takes.{IsLeastOfTake}
use Rattle.odb_calls.specs.Takes.TakesPart.{NotTaken, Taken}
use Rattle.odb_calls.proofs.AnswerLemmas.{answer-reported}
use Rattle.odb_calls.proofs.ReturnLemmas.{returned}
use Rattle.odb_calls.proofs.takes.take_part.Goals as goal

pub returns-in-Ok-true : goal.returns-in-Ok-true
returns-in-Ok-true c = let (replies, are, follows) = c.in-Ok-true.ensures.taken (ap (λ (b : Bool). Ok b) c.in-Ok-true.field-0-test) in Taken c.in-Some.mode replies c.in-Some.ensures.some are follows refl refl refl

pub returns-in-Err : goal.returns-in-Err
returns-in-Err c =
    let Is = IsLeastOfTake c.args.live.now c.args.part.now c.args.responses.now c.in-Some.mode in
    NotTaken c.in-Some.mode c.in-Some.ensures.some
    (returned (Reports Is Lines) c.of.result c.give.result c.give.new.text_length c.args.text.now c.give.new.buffer (answer-reported Is c.in-Err.halt c.of.result c.in-Err.ensures.least c.of.ensures) c.give.ensures.ok c.give.ensures.err)
    (c.in-Err.ensures.same (λ same. cc same))
