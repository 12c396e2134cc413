use Rattle.std.proofs.Common.{rules}
use Rattle.odb_doc.proofs.text.push_group.Goals as goal

pub returns-in-Some : goal.returns-in-Some
returns-in-Some c = search rules
