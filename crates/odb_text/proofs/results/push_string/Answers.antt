use Rattle.std.proofs.Common.{arith}
use Rattle.std.proofs.lemmas.Grind.{common_steps}
use Rattle.odb_text.proofs.results.push_string.Goals as goal

pub returns : goal.returns
returns c = grind (arith, common_steps)
