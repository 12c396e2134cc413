use Rattle.std.proofs.Common.{rules}
use Rattle.odb_check.proofs.plan.Plan.position_of.Goals as goal

pub returns : goal.returns
returns c = search rules
