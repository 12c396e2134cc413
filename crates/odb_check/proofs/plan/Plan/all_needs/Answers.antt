use Rattle.odb_check.proofs.PlanLemmas.{kept_needs}
use Rattle.odb_check.proofs.plan.Plan.all_needs.Goals as goal

pub returns : goal.returns
returns c = kept_needs c.args.self.now
