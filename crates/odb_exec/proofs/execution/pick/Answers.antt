use Rattle.std.proofs.Common.{rules}
use Rattle.odb_exec.proofs.execution.pick.Goals as goal

pub returns-in-Report-clause-chosen : goal.returns-in-Report-clause-chosen
returns-in-Report-clause-chosen c = search rules

pub returns-in-Start-clause-allowed : goal.returns-in-Start-clause-allowed
returns-in-Start-clause-allowed c = search rules

pub returns-in-Start-clause-chosen : goal.returns-in-Start-clause-chosen
returns-in-Start-clause-chosen c = search rules
