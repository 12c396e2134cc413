use Rattle.std.proofs.Common.{rules}
use Rattle.odb_exec.proofs.execution.next_step.Goals as goal

pub returns-in-Some-clause-picked : goal.returns-in-Some-clause-picked
returns-in-Some-clause-picked c = search rules
