use Rattle.std.proofs.Common.{rules}
use Rattle.odb_reply.proofs.parts.push_answer_headers.Goals as goal

pub returns-in-Some : goal.returns-in-Some
returns-in-Some c = rw (c.in-Reported.is, ← c.in-Some.ensures) c.push_headers.ensures

pub returns-in-None : goal.returns-in-None
returns-in-None c = rw (c.in-Reported.is, ← c.in-None.ensures) (search rules)
