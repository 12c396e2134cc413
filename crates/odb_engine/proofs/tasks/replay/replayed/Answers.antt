-- The `dyn` that is lent is made of the order: what holds of it there holds of the order.
use Rattle.std.proofs.Common.{subst}
use Rattle.serde_json.specs.View.{view}
use Rattle.odb_check.specs.Plans.{plan_records}
use Rattle.odb_sched.specs.run.Choosing.{Allowance}
use Rattle.odb_engine.specs.Halts.{Found}
use Rattle.odb_engine.specs.Replays.{ReplaysValue}
use borrow.Pointer.Hide.{carried_sameᵐ}
use denote.Param.Table.{Entry}
use denote.Ref.{MutBor}
use mir.Syntax.{Dict}
use Rattle.odb_engine.proofs.tasks.replay.replayed.Object-1.{Members}
use Rattle.odb_engine.proofs.tasks.replay.replayed.OwnLists.{entry-1-1, same-1-1}
use Rattle.odb_engine.proofs.tasks.replay.replayed.Goals as goal

pub returns-clause-found : goal.returns-clause-found
returns-clause-found c =
    λ form. subst (λ (a : Allowance). Found (ReplaysValue a c.args.policy c.args.traced (plan_records c.args.plan.now) (view c.args.value)) form c.replayed_by.result)
    (carried_sameᵐ Members Dict entry-1-1 _ same-1-1 Allowance (λ (j : Entry Members Dict) (y : MutBor j.0.Denot). j.1.allows y.now) _) (c.replayed_by.ensures.found form)
