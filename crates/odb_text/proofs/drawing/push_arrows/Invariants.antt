use Rattle.std.proofs.Common.{◌≡◌, ◌++◌, take, string_bytes}
use Rattle.std.specs.List.{flat_map}
use Rattle.odb_check.specs.Plans.{plan_records}
use Rattle.odb_text.specs.Drawings.{arrow_line}
use Rattle.odb_text.proofs.drawing.push_arrows.Given as goal

-- the arrows so far
abbrev pub invariant-loop-need : goal.invariant-loop-need
invariant-loop-need l = string_bytes l.text ≡ string_bytes l.fn.text ++ flat_map (arrow_line (plan_records l.plan) l.i) (take l.need-index l.needs)
