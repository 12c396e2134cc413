use Rattle.std.proofs.Common.{Bool, IfOk, subst, sym}
use Rattle.odb_engine.specs.Located.{StandsIn}
use Rattle.odb_engine.proofs.tasks.located.found_at.Goals as goal

pub returns-then-is_pair : goal.returns-then-is_pair
returns-then-is_pair c = subst (λ (two : Bool). IfOk c.position_in_pair_by.result (StandsIn two c.args.document.now c.args.place)) (sym c.if-is_pair.true) c.position_in_pair_by.ensures.stands

pub returns-else-is_pair : goal.returns-else-is_pair
returns-else-is_pair c = subst (λ (two : Bool). IfOk c.position_by.result (StandsIn two c.args.document.now c.args.place)) (sym c.if-is_pair.false) c.position_by.ensures.stands
