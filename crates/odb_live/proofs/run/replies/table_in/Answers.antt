use Rattle.std.proofs.Common.{IfErr}
use Rattle.serde_json.specs.View.{view}
use Rattle.odb_check.specs.Plans.{plan_records}
use Rattle.odb_reply.specs.Fits.{places, statuses}
use Rattle.odb_engine.specs.Halts.{Halted}
use Rattle.odb_engine.specs.Matches.{HasNoTable}
use Rattle.odb_live.specs.Replies.{HasNoFinalTable}
use Rattle.odb_live.specs.Replies.HasNoFinalTable.{OfStatus, OfTable}
use Rattle.odb_engine.proofs.EngineLemmas.{Halted-weaker, at-exit, exit-error, halted-by}
use Rattle.odb_live.proofs.run.replies.table_in.Goals as goal

pub returns-in_err-table-clause-least : goal.returns-in_err-table-clause-least
returns-in_err-table-clause-least c =
    let batch = plan_records c.args.plan.now in
    let value = view c.args.value.now in
    let none = HasNoFinalTable c.args.mode batch value in
    exit-error (λ r. IfErr r (Halted none)) _ _ c.from_residual.ensures.1 (Halted-weaker (HasNoTable c.args.mode batch value) none (λ refusal is. OfTable is) _ c.in_err-table.ensures.least)

pub returns-in_err-check_final-clause-least : goal.returns-in_err-check_final-clause-least
returns-in_err-check_final-clause-least c =
    let none = HasNoFinalTable c.args.mode (plan_records c.args.plan.now) (view c.args.value.now) in
    let table = c.in_ok-table.table in
    at-exit (λ r. IfErr r (Halted none)) _ _ c.from_residual-in_err-check_final.ensures.1
    (halted-by none _ (λ refusal row. OfStatus (places table) (statuses table) c.in_err-check_final.field-0.0 c.in_ok-table.ensures.table c.in_err-check_final.ensures.first row))
