use Rattle.std.proofs.Common.{arith}
use Rattle.std.proofs.lemmas.Grind.{common_steps}
use Rattle.odb_exec.proofs.service.RecordedService.perform.Goals as goal

pub returns-clause-moved_out : goal.returns-clause-moved_out
returns-clause-moved_out c = grind (arith, common_steps)
