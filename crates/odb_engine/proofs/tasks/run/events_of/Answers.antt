use Rattle.std.proofs.Common.{IfErr}
use Rattle.serde_json.specs.View.{view}
use Rattle.odb_engine.specs.Halts.{Halted}
use Rattle.odb_engine.specs.Runs.{IsFaultOfEvents}
use Rattle.odb_engine.proofs.EngineLemmas.{at-exit, halted-by}
use Rattle.odb_engine.proofs.tasks.run.events_of.Goals as goal

pub returns-in_err-events-clause-least : goal.returns-in_err-events-clause-least
returns-in_err-events-clause-least c =
    let faults = IsFaultOfEvents (view c.args.value) in
    at-exit (λ r. IfErr r (Halted faults)) _ _ c.from_residual.ensures.1
    (halted-by faults _ (λ refusal row. record { fault = c.in_err-events.field-0.0; refuses = c.in_err-events.ensures.least; is = row }))
