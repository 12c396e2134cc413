use Rattle.serde_json.specs.View.{view}
use Rattle.odb_check.specs.Plans.{plan_records}
use Rattle.odb_reply.specs.Fits.{places, statuses}
use Rattle.odb_engine.specs.declared.ending.Ended.TheVariants.{Refused}
use Rattle.odb_engine.specs.Forms.{fault_text}
use Rattle.odb_engine.specs.Halts.{Found}
use Rattle.odb_engine.specs.Matches.{HasNoTable, MatchesValue, WritesStatuses}
use Rattle.odb_engine.proofs.EngineLemmas.{Halted-weaker, at-exit, exit-error}
use Rattle.odb_engine.proofs.MatchLemmas.{found-match, halt-statuses, no-table}
use Rattle.odb_engine.proofs.tasks.match_responses.matched.Goals as goal

pub returns-in_err-table-clause-found : goal.returns-in_err-table-clause-found
returns-in_err-table-clause-found c =
    let form = c.args.setup.form in
    let batch = plan_records c.args.plan.now in
    let value = view c.args.value in
    let writes = MatchesValue c.args.mode c.args.strict batch value in
    exit-error (Found writes form) _ _ c.from_residual.ensures.1
    (Halted-weaker (HasNoTable c.args.mode batch value) (λ refusal. writes form Refused (fault_text form refusal)) (no-table (λ _ all. WritesStatuses c.args.strict batch all) c.args.mode batch value form) _ c.in_err-table.ensures.least)

pub returns-in_err-check_asked-clause-found : goal.returns-in_err-check_asked-clause-found
returns-in_err-check_asked-clause-found c =
    let mode = c.args.mode in
    let form = c.args.setup.form in
    let batch = plan_records c.args.plan.now in
    let value = view c.args.value in
    let table = c.in_ok-table.table in
    let least = c.in_err-check_asked.ensures.least in
    at-exit (Found (MatchesValue mode c.args.strict batch value) form) _ _ c.from_residual-in_err-check_asked.ensures.1
    (halt-statuses mode c.args.strict form batch value (places table) (statuses table) _ c.in_ok-table.ensures.table least.0 least.1 least.2)

pub returns-clause-found : goal.returns-clause-found
returns-clause-found c =
    let table = c.in_ok-table.table in
    found-match c.args.mode c.args.strict c.args.setup.form (plan_records c.args.plan.now) (view c.args.value) (places table) (statuses table) _ c.in_ok-table.ensures.table c.in_ok-check_asked.ensures.answered c.in_ok-match_text.ensures
