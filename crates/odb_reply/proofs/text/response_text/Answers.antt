use Rattle.std.proofs.Common.{◌≡◌, ◌↔◌, Err, IfOk, Some, string_bytes, subst}
use Rattle.serde_json.specs.Read.{read}
use Rattle.odb_doc.specs.declared.fault.TextFault.TheVariants.{NotWhole}
use Rattle.odb_sched.specs.run.State.{State}
use Rattle.odb_reply.specs.NotWhole.{IsFirstNotWhole}
use Rattle.odb_reply.specs.Readable.{HasShallowBodies}
use Rattle.odb_reply.specs.Responses.{response_value}
use Rattle.odb_reply.proofs.DoneLemmas.{labels_count, untexted_beside}
use Rattle.odb_reply.proofs.text.response_text.Goals as goal

pub response_of-requires-clause-labels : goal.response_of-requires-clause-labels
response_of-requires-clause-labels c = labels_count c.args.done.now c.run.result.now _ c.run.ensures.state c.plan.ensures.plan c.plan.ensures.size

pub returns-clause-text : goal.returns-clause-text
returns-clause-text c =
    subst (λ bytes. IfOk c.response_of.result (λ text. string_bytes text ≡ bytes)) (untexted_beside c.args.done.now c.run.result.now _ c.run.ensures.state c.plan.ensures.plan) c.response_of.ensures.text

pub returns-clause-not_whole : goal.returns-clause-not_whole
returns-clause-not_whole c = λ at. subst (λ (s : State). (c.response_of.result ≡ Err (NotWhole at)) ↔ IsFirstNotWhole s at) c.run.ensures.state (c.response_of.ensures.not_whole at)

pub returns-clause-reads_back : goal.returns-clause-reads_back
returns-clause-reads_back c =
    subst (λ (s : State). IfOk c.response_of.result (λ text. HasShallowBodies s → read (string_bytes text) ≡ Some (response_value s))) c.run.ensures.state (rw c.plan.ensures.plan at c.response_of.ensures.reads_back)
