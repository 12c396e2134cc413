use Rattle.std.specs.Prelude.{◌≡◌, ◌<◌, All, length}
use Rattle.odb_check.specs.Firsts.{joined_below}
use Rattle.odb_check.specs.Plans.{plan_records}
use Rattle.odb_send.specs.NextPart.{position_in}
use Rattle.odb_send.specs.Rests.{kept}
use Rattle.odb_send.proofs.next_part.positions_of.Given as goal

-- the positions so far
abbrev pub invariant-loop-i : goal.invariant-loop-i
invariant-loop-i l = record {
  positions : l.found.items ≡ joined_below l.i (position_in (plan_records l.plan) (kept l.part));
  within : All (λ i. i < length (plan_records l.plan)) l.found.items;
}
