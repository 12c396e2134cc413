use Rattle.std.proofs.Common.{IfErr, IfSome, List, Option, Vec, Global, subst, sym}
use Rattle.odb_engine.specs.Halts.{Halted}
use Rattle.odb_live.specs.Replies.{AreRepliesTo}
use Rattle.odb_live.specs.declared.run.replies.Reply.{Reply}
use Rattle.odb_engine.proofs.EngineLemmas.{Halted-weaker, exit-error}
use Rattle.odb_calls.specs.Steps.{AreSteps, RefusesOne, attempts}
use Rattle.odb_calls.specs.Takes.{IsLeastOfTake}
use Rattle.odb_calls.specs.Takes.IsLeastOfTake.{OfReply}
use Rattle.odb_calls.proofs.StepLemmas.{followed}
use Rattle.odb_calls.proofs.takes.take_answers.Goals as goal

pub returns-in_err-steps-clause-least : goal.returns-in_err-steps-clause-least
returns-in_err-steps-clause-least c =
    let live = c.args.live.now in
    let part = c.args.part.now in
    let document = c.args.responses.now in
    let mode = c.args.mode in
    let replies = c.in-Some.replies.items in
    let are : AreRepliesTo live part document mode replies = subst (λ (found : Option (Vec Reply Global)). IfSome found (λ made. AreRepliesTo live part document mode made.items)) c.in-Some.is c.in_ok-replies.ensures.replies in
    let lent : AreRepliesTo live part document mode c.deref.result.now = subst (λ (xs : List Reply). AreRepliesTo live part document mode xs) (sym c.deref.ensures.value) are in
    exit-error (λ r. IfErr r (Halted (IsLeastOfTake live part document mode))) _ _ c.from_residual-in_err-steps.ensures.1
    (Halted-weaker (RefusesOne document c.deref.result.now) (IsLeastOfTake live part document mode) (λ refusal is. OfReply c.deref.result.now lent is) _ c.in_err-steps.ensures.refused)

pub returns-clause-taken : goal.returns-clause-taken
returns-clause-taken c =
    let live = c.args.live.now in
    let part = c.args.part.now in
    let document = c.args.responses.now in
    let mode = c.args.mode in
    let replies = c.in-Some.replies.items in
    let are : AreRepliesTo live part document mode replies = subst (λ (found : Option (Vec Reply Global)). IfSome found (λ made. AreRepliesTo live part document mode made.items)) c.in-Some.is c.in_ok-replies.ensures.replies in
    let steps : AreSteps document (attempts mode replies) c.in_ok-steps.steps.items = subst (λ (xs : List Reply). AreSteps document (attempts mode xs) c.in_ok-steps.steps.items) c.deref.ensures.value c.in_ok-steps.ensures.steps in
    λ done. (replies, are, followed document (attempts mode replies) c.in_ok-steps.steps.items live c.follow.new.live steps c.follow.ensures)
