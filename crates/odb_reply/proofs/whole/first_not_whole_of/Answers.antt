use Rattle.std.proofs.Common.{◌≡◌, IfSome, None, subst}
use Rattle.odb_sched.specs.run.State.{State}
use Rattle.odb_doc.specs.recorded.OutcomeValues.{IsHeldOutcome}
use Rattle.odb_reply.specs.NotWhole.{HasWholeBodies, IsFirstNotWhole}
use Rattle.odb_reply.specs.Readable.{AnswersBy}
use Rattle.odb_reply.proofs.whole.first_not_whole_of.Goals as goal

pub returns : goal.returns
returns c =
    let result = c.first_not_whole.result in
    let run = c.run.ensures.state in
    record {
      first = subst (λ (s : State). IfSome result (IsFirstNotWhole s)) run c.first_not_whole.ensures.first;
      none = subst (λ (s : State). result ≡ None → HasWholeBodies s) run c.first_not_whole.ensures.none;
      held = subst (λ (s : State). result ≡ None → AnswersBy IsHeldOutcome s) run c.first_not_whole.ensures.held;
    }
