use Rattle.std.proofs.Common.{◌≡◌, map}
use Rattle.serde_json.specs.View.{view}
use Rattle.odb_check.specs.Firsts.{list_below}
use Rattle.odb_reply.specs.Fits.{places, statuses}
use Rattle.odb_send.specs.Answers.{answer_of, recorded}
use Rattle.odb_send.proofs.answers.answers_of.Given as goal

-- the answers to the requests so far
abbrev pub invariant-loop-i : goal.invariant-loop-i
invariant-loop-i l = map answer_of l.found.items ≡ list_below l.i (recorded (view l.responses) (places l.table) (statuses l.table))
