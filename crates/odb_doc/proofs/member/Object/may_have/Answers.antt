use Rattle.std.proofs.Common.{rules}
use Rattle.odb_doc.proofs.member.Object.may_have.Goals as goal

pub returns-in-Start : goal.returns-in-Start
returns-in-Start c = search rules
