use Rattle.std.proofs.Common.{◌≡◌, map}
use Rattle.odb_check.specs.Firsts.{list_below}
use Rattle.odb_send.specs.Answers.{answer_of}
use Rattle.odb_live.specs.LiveParts.{answer}
use Rattle.odb_live.proofs.run.parts.answers_of.Given as goal

-- what the requests so far have reported
abbrev pub invariant-loop-i : goal.invariant-loop-i
invariant-loop-i l = map answer_of l.found.items ≡ list_below l.i (answer l.run)
