use Rattle.std.proofs.Common.{rules}
use Rattle.odb_names.proofs.method.Method.takes_body.Goals as goal

pub returns-in-Delete : goal.returns-in-Delete
returns-in-Delete c = search rules
