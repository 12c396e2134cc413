use Rattle.std.proofs.Common.{string_bytes}
use Rattle.serde_json.specs.View.{view}
use Rattle.odb_check.specs.Plans.{plan_records}
use Rattle.odb_reply.specs.Fits.{places, statuses}
use Rattle.odb_engine.specs.declared.ending.Ended.TheVariants.{Refused}
use Rattle.odb_engine.specs.Forms.{fault_text}
use Rattle.odb_engine.specs.Halts.{Found}
use Rattle.odb_engine.specs.Matches.{HasNoTable}
use Rattle.odb_engine.specs.Rests.{RestsValue, WritesRest}
use Rattle.odb_engine.proofs.EngineLemmas.{Halted-weaker, at-exit, exit-error}
use Rattle.odb_engine.proofs.MatchLemmas.{no-table}
use Rattle.odb_engine.proofs.RestLemmas.{found-rest, rest-lacks}
use Rattle.odb_engine.proofs.tasks.rest.left_over.Goals as goal

pub returns-in_err-table-clause-found : goal.returns-in_err-table-clause-found
returns-in_err-table-clause-found c =
    let document = c.args.document.now in
    let batch = plan_records c.args.plan.now in
    let value = view c.args.value in
    let writes = RestsValue c.args.mode document batch value in
    λ form. exit-error (Found writes form) _ _ c.from_residual.ensures.1
    (Halted-weaker (HasNoTable c.args.mode batch value) (λ refusal. writes form Refused (fault_text form refusal)) (no-table (WritesRest document batch value) c.args.mode batch value form) _ c.in_err-table.ensures.least)

pub returns-in_err-rest-clause-found : goal.returns-in_err-rest-clause-found
returns-in_err-rest-clause-found c =
    let mode = c.args.mode in
    let document = c.args.document.now in
    let batch = plan_records c.args.plan.now in
    let value = view c.args.value in
    let table = c.in_ok-table.table in
    λ form. at-exit (Found (RestsValue mode document batch value) form) _ _ c.from_residual-in_err-rest.ensures.1
    (rest-lacks mode form document batch value (places table) (statuses table) _ c.in_ok-table.ensures.table c.in_err-rest.ensures.least c.in_err-rest.ensures.marks)

pub returns-clause-found : goal.returns-clause-found
returns-clause-found c =
    let table = c.in_ok-table.table in
    λ form. found-rest c.args.mode form c.args.document.now (plan_records c.args.plan.now) (view c.args.value) (places table) (statuses table) (string_bytes c.in_ok-text.text) _ c.in_ok-rest.rest c.in_ok-table.ensures.table c.in_ok-rest.ensures.rest
    c.in_ok-text.ensures c.in_ok-push_str.ensures.bytes
