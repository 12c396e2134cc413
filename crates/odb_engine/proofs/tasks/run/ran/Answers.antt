use Rattle.std.proofs.Common.{◌≡◌, inl, inr, subst, sym, string_bytes, rules}
use Rattle.serde_json.specs.View.{view}
use Rattle.odb_doc.specs.recorded.EventLists.{entries}
use Rattle.odb_check.specs.Plans.{plan_records}
use Rattle.odb_engine.specs.declared.ending.Ended.TheVariants.{Done, Refused}
use Rattle.odb_engine.specs.Forms.{fault_text}
use Rattle.odb_engine.specs.Halts.{Found}
use Rattle.odb_engine.specs.ResponseLines.{response_line}
use Rattle.odb_engine.specs.Runs.{IsFaultOfEvents, IsLeastOfRun, RunsValue}
use Rattle.odb_engine.proofs.EngineLemmas.{exit-error, Halted-weaker, reports}
use Rattle.odb_engine.proofs.tasks.run.ran.Goals as goal

pub returns-in_err-events-clause-found : goal.returns-in_err-events-clause-found
returns-in_err-events-clause-found c =
    let value = view c.args.value in
    let writes = RunsValue c.args.policy (plan_records c.args.plan.now) value in
    λ form. exit-error (Found writes form) _ _ c.from_residual.ensures.1
    (Halted-weaker (IsFaultOfEvents value) (λ refusal. writes form Refused (fault_text form refusal)) (λ refusal is. inl (reports (IsFaultOfEvents value) form refusal is)) _ c.in_err-events.ensures.least)

pub returns-in_err-done_of-clause-found : goal.returns-in_err-done_of-clause-found
returns-in_err-done_of-clause-found c =
    let batch = plan_records c.args.plan.now in
    let named = entries c.in_ok-events.events in
    let writes = RunsValue c.args.policy batch (view c.args.value) in
    let least = IsLeastOfRun c.args.policy batch named in
    λ form. exit-error (Found writes form) _ _ c.from_residual-in_err-done_of.ensures.1
    (Halted-weaker least (λ refusal. writes form Refused (fault_text form refusal)) (λ refusal is. inr (named, c.in_ok-events.ensures.events, inl (reports least form refusal is))) _ c.in_err-done_of.ensures.least)

pub returns-clause-found : goal.returns-clause-found
returns-clause-found c =
    let done = c.in_ok-done_of.field-0 in
    let writes = RunsValue c.args.policy (plan_records c.args.plan.now) (view c.args.value) in
    let same : string_bytes c.push_response.new.text ≡ response_line done = search rules in
    λ form. subst (writes form Done) (sym same) (inr (entries c.in_ok-events.events, c.in_ok-events.ensures.events, inr c.in_ok-done_of.ensures.result))
