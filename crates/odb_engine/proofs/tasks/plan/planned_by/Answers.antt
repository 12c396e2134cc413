use Rattle.std.proofs.Common.{Bool, subst, sym}
use Rattle.odb_check.specs.Plans.{plan_records}
use Rattle.odb_engine.specs.Halts.{Found}
use Rattle.odb_engine.specs.Tasks.{PlansBy}
use Rattle.odb_engine.proofs.tasks.plan.planned_by.Goals as goal

pub returns-then-full-clause-found : goal.returns-then-full-clause-found
returns-then-full-clause-found c =
    subst (λ (full : Bool). Found (PlansBy full c.args.document.now (plan_records c.args.plan.now)) c.args.form c.full_plan_text.result) (sym c.if-full.true) (c.full_plan_text.ensures.found c.args.form)

pub returns-else-full-clause-found : goal.returns-else-full-clause-found
returns-else-full-clause-found c =
    subst (λ (full : Bool). Found (PlansBy full c.args.document.now (plan_records c.args.plan.now)) c.args.form c.planned_text.result) (sym c.if-full.false) c.planned_text.ensures.found
