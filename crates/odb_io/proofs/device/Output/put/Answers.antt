use Rattle.std.proofs.Common.{rules}
use Rattle.odb_io.proofs.device.Output.put.Goals as goal

pub returns-in-Ok-clause-progress : goal.returns-in-Ok-clause-progress
returns-in-Ok-clause-progress c = search rules
