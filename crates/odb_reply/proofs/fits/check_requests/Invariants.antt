use Rattle.std.proofs.Common.{ℕ, ◌<◌}
use Rattle.odb_check.specs.Plans.{plan_records}
use Rattle.odb_reply.specs.Places.{NoneIn}
use Rattle.odb_reply.specs.ResponseDocuments.{entries}
use Rattle.odb_reply.proofs.fits.check_requests.Given as goal

-- the requests before i break no rule
abbrev pub invariant-loop-i : goal.invariant-loop-i
invariant-loop-i l = (k : ℕ) → k < l.i → NoneIn 3 (plan_records l.plan) (entries l.responses) k
