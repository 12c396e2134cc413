use Rattle.std.proofs.Common.{refl}
use Rattle.odb_doc.proofs.fault.RequestRule.row.Goals as goal

pub returns-in-BadUrl-clause-code : goal.returns-in-BadUrl-clause-code
returns-in-BadUrl-clause-code c = rw c.in-BadUrl.is refl
