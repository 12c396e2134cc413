-- Where a request is sent.
use Rattle.std.proofs.Common.{◌≢◌, [], arith, sym}
use Rattle.std.proofs.lemmas.Grind.{common_steps}
use Rattle.std.proofs.lemmas.Result.{IfOk-weaker}
use Rattle.odb_calls.specs.Targets.Leads.{Below}
use Rattle.odb_calls.proofs.TargetLemmas.{refuses-by}
use Rattle.odb_calls.proofs.targets.target.Goals as goal

pub returns-clause-leads : goal.returns-clause-leads
returns-clause-leads c =
    let some : c.args.sent.now ≢ [] = grind (arith, common_steps, c.is_empty.ensures, c.if-is_empty.false) in
    IfOk-weaker c.url_below.result _ _ (λ text so. Below c.answer_of.result some c.answer_of.ensures (sym so)) c.url_below.ensures.sent

pub returns-clause-refused : goal.returns-clause-refused
returns-clause-refused c =
    let some : c.args.sent.now ≢ [] = grind (arith, common_steps, c.is_empty.ensures, c.if-is_empty.false) in
    refuses-by c.url_below.result _ _ (λ refusal is. Below c.answer_of.result some c.answer_of.ensures (sym is)) c.url_below.ensures.refused
