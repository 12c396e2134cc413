use Rattle.std.proofs.Common.{arith}
use Rattle.std.proofs.lemmas.Grind.{common_steps}
use Rattle.odb_text.proofs.plan.push_group.Goals as goal

pub returns-in_ok-push_string-in-Some : goal.returns-in_ok-push_string-in-Some
returns-in_ok-push_string-in-Some c = grind (arith, common_steps)
