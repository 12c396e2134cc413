-- The next part of a run, for C.
use Rattle.std.proofs.Common.{◌<◌, All, IfSome, Option, refl, subst}
use Rattle.odb_engine.specs.Cascade.{Reports}
use Rattle.odb_live.specs.LiveParts.{IsLeastOfPart, IsPartIn}
use Rattle.odb_engine.specs.declared.form.Form.TheVariants.{Lines}
use Rattle.odb_live.specs.declared.run.parts.Part.{Part}
use Rattle.odb_sched.specs.run.State.{size}
use Rattle.odb_calls.specs.Parts.GivesPart.{Given, NotGiven}
use Rattle.odb_calls.proofs.AnswerLemmas.{answer-reported}
use Rattle.odb_calls.proofs.ReturnLemmas.{returned}
use Rattle.odb_calls.proofs.parts.part.Goals as goal

pub mark-requires : goal.mark-requires
mark-requires c = subst (λ (next : Option Part). IfSome next (λ part. All (λ i. i < size c.args.live.now.run) part.positions.items)) c.in-Some.is c.in-Ok.ensures.within

pub returns-in-Some : goal.returns-in-Some
returns-in-Some c =
    Given c.in-Some.found (subst (λ (next : Option Part). IfSome next (IsPartIn c.args.live.now c.args.batch.now c.args.limit)) c.in-Some.is c.in-Ok.ensures.part) c.give_part-status.ensures c.mark.ensures.given c.mark.ensures.kept

pub returns-in-Err : goal.returns-in-Err
returns-in-Err c =
    let Is = IsLeastOfPart c.args.live.now c.args.batch.now c.args.limit in
    NotGiven (returned (Reports Is Lines) c.of.result c.give.result c.give.new.text_length c.args.text.now c.give.new.buffer
    (answer-reported Is c.in-Err.halt c.of.result c.in-Err.ensures.least c.of.ensures) c.give.ensures.ok c.give.ensures.err) refl refl refl
