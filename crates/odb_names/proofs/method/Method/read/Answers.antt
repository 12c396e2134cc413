use Rattle.std.proofs.Common.{rules}
use Rattle.odb_names.proofs.method.Method.read.Goals as goal

pub returns-clause-named : goal.returns-clause-named
returns-clause-named c = search rules
