use Rattle.std.proofs.Common.{◌≡◌, ◌++◌, take}
use Rattle.std.specs.Prelude.{string_bytes}
use Rattle.odb_check.specs.Plans.{plan_records}
use Rattle.odb_check.specs.Texts.{further_text}
use Rattle.odb_send.proofs.parts.push_further.Given as goal

-- the names so far
abbrev pub invariant-loop-need : goal.invariant-loop-need
invariant-loop-need l = string_bytes l.text ≡ string_bytes l.initial.text ++ further_text (plan_records l.plan) (take l.need-index l.needs)
