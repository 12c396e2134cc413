use Rattle.std.proofs.Common.{IfErr, subst}
use Rattle.serde_json.specs.View.{view}
use Rattle.odb_check.specs.Plans.{plan_records}
use Rattle.odb_reply.specs.Fits.{Fits, IsTableOf, places, statuses}
use Rattle.odb_reply.specs.LeastMatchFault.{RefusesMatch}
use Rattle.odb_reply.specs.ResponseDocuments.{entries}
use Rattle.odb_engine.specs.Halts.{Halted}
use Rattle.odb_engine.specs.Matches.{HasNoTable, decided}
use Rattle.odb_engine.specs.Matches.HasNoTable.{OfMatch, OfValue}
use Rattle.odb_engine.proofs.EngineLemmas.{at-exit, halted-by}
use Rattle.odb_engine.proofs.tasks.match_responses.table_of.Goals as goal

pub returns-in_err-read-clause-least : goal.returns-in_err-read-clause-least
returns-in_err-read-clause-least c =
    let none = HasNoTable c.args.mode (plan_records c.args.plan.now) (view c.args.value.now) in
    at-exit (λ r. IfErr r (Halted none)) _ _ c.from_residual.ensures.1
    (halted-by none _ (λ refusal row. OfValue (record { fault = c.in_err-read.field-0.0; refuses = c.in_err-read.ensures.least; is = row })))

pub returns-in_err-table-clause-least : goal.returns-in_err-table-clause-least
returns-in_err-table-clause-least c =
    let mode = c.args.mode in
    let batch = plan_records c.args.plan.now in
    let none = HasNoTable mode batch (view c.args.value.now) in
    let listed = entries c.in_ok-read.read in
    let fault = c.in_err-table.field-0.0 in
    let least : RefusesMatch fault batch (decided mode batch listed) = subst (RefusesMatch fault batch) c.in_ok-decided.ensures c.in_err-table.ensures.least in
    at-exit (λ r. IfErr r (Halted none)) _ _ c.from_residual-in_err-table.ensures.1
    (halted-by none _ (λ refusal row. OfMatch listed (c.in_ok-read.ensures.good, c.in_ok-read.ensures.responses) (record { fault = fault; least = least; is = row })))

pub returns-clause-table : goal.returns-clause-table
returns-clause-table c =
    let batch = plan_records c.args.plan.now in
    let table = c.in_ok-table.table in
    let all = c.in_ok-decided.ensures in
    record {
      entries = entries c.in_ok-read.read;
      lists = (c.in_ok-read.ensures.good, c.in_ok-read.ensures.responses);
      fits = subst (Fits batch) all c.in_ok-table.ensures.fits;
      table = subst (λ es. IsTableOf batch es (places table) (statuses table)) all c.in_ok-table.ensures.table;
    }
