use Rattle.std.proofs.Common.{◌≡◌, ◌++◌, OnOk, string_bytes, subst}
use Rattle.odb_reply.proofs.DoneLemmas.{labels_count, untexted_beside}
use Rattle.odb_reply.proofs.text.push_whole_response.Goals as goal

pub push_whole-requires-clause-labels : goal.push_whole-requires-clause-labels
push_whole-requires-clause-labels c = labels_count c.args.done.now c.run.result.now _ c.run.ensures.state c.plan.ensures.plan c.plan.ensures.size

pub returns : goal.returns
returns c =
    subst (λ bytes. OnOk c.push_whole.result (string_bytes c.push_whole.new.text ≡ string_bytes c.args.text.now ++ bytes)) (untexted_beside c.args.done.now c.run.result.now _ c.run.ensures.state c.plan.ensures.plan) c.push_whole.ensures
