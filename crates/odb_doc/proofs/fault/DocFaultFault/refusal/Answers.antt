use Rattle.std.proofs.Common.{rules}
use Rattle.odb_doc.proofs.fault.DocFaultFault.refusal.Goals as goal

pub returns-in-Request : goal.returns-in-Request
returns-in-Request c = search rules
