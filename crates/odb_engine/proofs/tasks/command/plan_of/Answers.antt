use Rattle.std.proofs.Common.{IfErr}
use Rattle.odb_doc.specs.batch.Batches.{records}
use Rattle.odb_engine.specs.Halts.{RefusesNamesOf, Halted}
use Rattle.odb_engine.proofs.EngineLemmas.{at-exit, halted-by}
use Rattle.odb_engine.proofs.tasks.command.plan_of.Goals as goal

pub returns-in_err-check_with-clause-least : goal.returns-in_err-check_with-clause-least
returns-in_err-check_with-clause-least c =
    let refuses = RefusesNamesOf (records c.args.batch.now) in
    let fault = c.in_err-check_with.field-0.0 in
    at-exit (λ r. IfErr r (Halted refuses)) _ _ c.from_residual.ensures.1
    (halted-by refuses _ (λ refusal row. record { fault = fault; refuses = c.in_err-check_with.ensures.least; is = row }))
