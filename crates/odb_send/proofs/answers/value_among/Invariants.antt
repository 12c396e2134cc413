use Rattle.std.proofs.Common.{◌≡◌}
use Rattle.serde_json.specs.View.{members_view}
use Rattle.odb_send.specs.Answers.{value_among}
use Rattle.odb_send.proofs.answers.value_among.Given as goal

-- what is left has the value, if there is one
abbrev pub invariant-loop-written : goal.invariant-loop-written
invariant-loop-written l = value_among l.name (members_view l.written-iterator) ≡ value_among l.name (members_view l.members.entries)
