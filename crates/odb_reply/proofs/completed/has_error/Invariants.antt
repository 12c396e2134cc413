use Rattle.std.proofs.Common.{◌≡◌, drop, map}
use Rattle.odb_reply.specs.Completed.{has_error}
use Rattle.odb_reply.specs.ResponseDocuments.{entry_of}
use Rattle.odb_reply.proofs.completed.has_error.Given as goal

-- the result is that of the remaining responses
abbrev pub invariant-loop-response : goal.invariant-loop-response
invariant-loop-response l = has_error (map entry_of (drop l.response-index l.responses)) ≡ has_error (map entry_of l.responses)
