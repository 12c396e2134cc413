use Rattle.std.proofs.Common.{rules}
use Rattle.odb_reply.proofs.write.write_full.Goals as goal

pub returns-in_ok-put_text-clause-ok : goal.returns-in_ok-put_text-clause-ok
returns-in_ok-put_text-clause-ok g c = search rules
