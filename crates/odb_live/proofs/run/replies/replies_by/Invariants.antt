use Rattle.std.proofs.Common.{◌≡◌}
use Rattle.odb_check.specs.Firsts.{list_below}
use Rattle.odb_reply.specs.Fits.{places, statuses}
use Rattle.odb_live.specs.Replies.{reply_at}
use Rattle.odb_live.proofs.run.replies.replies_by.Given as goal

-- the answers so far
abbrev pub invariant-loop-k : goal.invariant-loop-k
invariant-loop-k l = l.made.items ≡ list_below l.k (reply_at l.found l.positions (places l.table) (statuses l.table))
