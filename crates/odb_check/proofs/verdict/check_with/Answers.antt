use Rattle.std.proofs.Common.{rules}
use Rattle.odb_check.proofs.verdict.check_with.Goals as goal

pub returns-clause-seed : goal.returns-clause-seed
returns-clause-seed c = search rules
