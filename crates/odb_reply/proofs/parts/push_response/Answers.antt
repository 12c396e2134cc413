use Rattle.odb_sched.specs.run.Answers.{answer}
use Rattle.odb_reply.specs.Labels.{label_value}
use Rattle.odb_reply.proofs.PartLemmas.{five_parts}
use Rattle.odb_reply.proofs.RestLemmas.{rest_text-more}
use Rattle.odb_reply.proofs.parts.push_response.Goals as goal

pub returns : goal.returns
returns g c =
    let parts = rest_text-more (g.L.Labels.labels c.args.labels.now) c.args.texts.now (answer c.args.run.now) c.args.i (label_value c.label-label.result) c.label-label.ensures in
    five_parts c.push_end.result _ _ _ _ _ _ _ _ _ _ _ _ _ _ c.in_ok-push_open.ensures c.in_ok-push_group.ensures
    (rw (c.text_at.ensures.text, c.answer-answer.ensures.value) at c.in_ok-push_answer_body.ensures) (rw c.answer-answer.ensures.value at c.in_ok-push_answer_headers.ensures) (rw (c.status.ensures, c.answer-answer.ensures.value) at c.push_end.ensures) parts
