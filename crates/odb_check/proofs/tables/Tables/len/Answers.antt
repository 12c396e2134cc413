use Rattle.std.proofs.Common.{rules}
use Rattle.odb_check.proofs.tables.Tables.len.Goals as goal

pub returns-clause-count : goal.returns-clause-count
returns-clause-count c = search rules
