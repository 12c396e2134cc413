use Rattle.std.proofs.Common.{rules, ◌≡◌, ◌<◌, length, arith, sym, ◌∙◌}
use Rattle.odb_check.specs.Plans.{plan_records}
use Rattle.odb_check.proofs.PositionLemmas.{position_first}
use Rattle.odb_exec.proofs.service.note.Goals as goal

pub bounds-outcomes-i : goal.bounds-outcomes-i
bounds-outcomes-i c =
    let within : c.in-Some.i < length (plan_records c.args.plan.now) = (position_first (plan_records c.args.plan.now) c.args.id.now c.in-Some.i (sym c.position_near.ensures ∙ c.in-Some.is)).0 in
    let room : length c.args.outcomes.now ≡ length (plan_records c.args.plan.now) = c.requires in
    omega arith

pub returns-in-Some : goal.returns-in-Some
returns-in-Some c = search rules
