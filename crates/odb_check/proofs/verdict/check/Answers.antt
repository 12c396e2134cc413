use Rattle.std.proofs.Common.{rules}
use Rattle.odb_check.proofs.verdict.check.Goals as goal

pub returns-clause-least : goal.returns-clause-least
returns-clause-least c = search rules
