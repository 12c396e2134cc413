use Rattle.std.proofs.Common.{refl, subst}
use Rattle.odb_check.specs.Laws.{HasPositions}
use Rattle.odb_reply.specs.BodyTexts.{value_with}
use Rattle.odb_reply.specs.OnePerId.{HasOnePerId}
use Rattle.odb_reply.specs.ResponseDocuments.{IsResponseDocument}
use Rattle.odb_reply.specs.Responses.{labels_of}
use Rattle.odb_sched.specs.run.Answers.{answer}
use Rattle.odb_sched.specs.run.State.{State}
use Rattle.odb_tests_text.proofs.laws.replies.texted.Goals as goal

pub returns-clause-document : goal.returns-clause-document
returns-clause-document c =
    let law = rw c.plan-2.ensures.plan at c.every_texted.ensures.document in
    subst (λ (s : State). IsResponseDocument (value_with (labels_of s.requests) c.args.texts.now (answer s))) c.run.ensures.state law

pub returns-clause-one_per_id : goal.returns-clause-one_per_id
returns-clause-one_per_id c =
    let requests = c.args.done.now.requests in
    let positions : HasPositions requests = rw (← c.plan.ensures.plan) c.every_plan.ensures.positions in
    let law = rw c.plan-2.ensures.plan at c.every_texted.ensures.one_per_id in
    subst (λ (s : State). HasOnePerId s.requests (value_with (labels_of s.requests) c.args.texts.now (answer s))) c.run.ensures.state (law requests refl positions)
