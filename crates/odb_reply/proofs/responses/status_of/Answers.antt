use Rattle.std.proofs.Common.{rules}
use Rattle.odb_reply.proofs.responses.status_of.Goals as goal

pub returns : goal.returns
returns c = search rules
