-- A run that is opened, with what is to be sent of its requests.
use Rattle.std.proofs.lemmas.Result.{IfOk-weaker}
use Rattle.odb_live.proofs.PlannedLemmas.{accepts-weaker}
use Rattle.odb_live.proofs.run.opened.open_with_requests.Goals as goal

pub returns-clause-run : goal.returns-clause-run
returns-clause-run c = IfOk-weaker c.made_of.result _ _ (λ opened. accepts-weaker c.args.batch.now _ _ (λ value batch both. both.0)) c.made_of.ensures.made

pub returns-clause-requests : goal.returns-clause-requests
returns-clause-requests c = IfOk-weaker c.made_of.result _ _ (λ opened. accepts-weaker c.args.batch.now _ _ (λ value batch both. both.1)) c.made_of.ensures.made
