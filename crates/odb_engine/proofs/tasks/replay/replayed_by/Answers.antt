use Rattle.std.proofs.Common.{◌≡◌, inl, inr, subst, sym, string_bytes, rules}
use Rattle.serde_json.specs.View.{view}
use Rattle.odb_doc.specs.recorded.OutcomeLists.{entries}
use Rattle.odb_check.specs.Plans.{plan_records}
use Rattle.odb_engine.specs.declared.ending.Ended.TheVariants.{Done, Refused}
use Rattle.odb_engine.specs.Forms.{fault_text}
use Rattle.odb_engine.specs.Halts.{Found}
use Rattle.odb_engine.specs.Replays.{IsFaultOfOutcomes, LacksOutcome, ReplaysValue, result_text}
use Rattle.odb_engine.proofs.EngineLemmas.{exit-error, Halted-weaker, reports}
use Rattle.odb_engine.proofs.tasks.replay.replayed_by.Goals as goal

pub returns-in_err-outcomes-clause-found : goal.returns-in_err-outcomes-clause-found
returns-in_err-outcomes-clause-found g c =
    let value = view c.args.value in
    let allows = (goal.Chooser-dyn g c.args.chooser.now).allows c.args.chooser.now.1 in
    let writes = ReplaysValue allows c.args.policy c.args.traced (plan_records c.args.plan.now) value in
    λ form. exit-error (Found writes form) _ _ c.from_residual.ensures.1
    (Halted-weaker (IsFaultOfOutcomes value) (λ refusal. writes form Refused (fault_text form refusal)) (λ refusal is. inl (reports (IsFaultOfOutcomes value) form refusal is)) _ c.in_err-outcomes.ensures.least)

pub returns-in_err-run_of-clause-found : goal.returns-in_err-run_of-clause-found
returns-in_err-run_of-clause-found g c =
    let batch = plan_records c.args.plan.now in
    let allows = (goal.Chooser-dyn g c.args.chooser.now).allows c.args.chooser.now.1 in
    let recorded = entries c.in_ok-outcomes.outcomes in
    let writes = ReplaysValue allows c.args.policy c.args.traced batch (view c.args.value) in
    let lacks = LacksOutcome allows c.args.policy batch recorded in
    λ form. exit-error (Found writes form) _ _ c.from_residual-in_err-run_of.ensures.1
    (Halted-weaker lacks (λ refusal. writes form Refused (fault_text form refusal)) (λ refusal is. inr (recorded, c.in_ok-outcomes.ensures.outcomes, inr (reports lacks form refusal is))) _ c.in_err-run_of.ensures.lacks)

pub returns-clause-found : goal.returns-clause-found
returns-clause-found g c =
    let trace = c.in_ok-run_of.field-0 in
    let allows = (goal.Chooser-dyn g c.args.chooser.now).allows c.args.chooser.now.1 in
    let writes = ReplaysValue allows c.args.policy c.args.traced (plan_records c.args.plan.now) (view c.args.value) in
    let same : string_bytes c.push_response.new.text ≡ result_text c.args.traced trace.done trace.steps.items = search rules in
    λ form. subst (writes form Done) (sym same) (inr (entries c.in_ok-outcomes.outcomes, c.in_ok-outcomes.ensures.outcomes, inl (c.in_ok-run_of.ensures.result c.args.traced)))
