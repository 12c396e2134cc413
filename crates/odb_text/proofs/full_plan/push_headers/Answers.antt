use Rattle.std.proofs.Common.{arith}
use Rattle.std.proofs.lemmas.Grind.{common_steps}
use Rattle.odb_text.proofs.full_plan.push_headers.Goals as goal

pub returns : goal.returns
returns c = grind (arith, common_steps)
