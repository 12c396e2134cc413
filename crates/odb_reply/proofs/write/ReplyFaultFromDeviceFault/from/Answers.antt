use Rattle.std.proofs.Common.{rules}
use Rattle.odb_reply.proofs.write.ReplyFaultFromDeviceFault.from.Goals as goal

pub returns : goal.returns
returns c = search rules
