use Rattle.std.proofs.Common.{IfErr}
use Rattle.serde_json.specs.View.{view}
use Rattle.odb_engine.specs.Halts.{Halted}
use Rattle.odb_engine.specs.Replays.{IsFaultOfOutcomes}
use Rattle.odb_engine.proofs.EngineLemmas.{at-exit, halted-by}
use Rattle.odb_engine.proofs.tasks.replay.outcomes_of.Goals as goal

pub returns-in_err-outcomes-clause-least : goal.returns-in_err-outcomes-clause-least
returns-in_err-outcomes-clause-least c =
    let faults = IsFaultOfOutcomes (view c.args.value) in
    at-exit (λ r. IfErr r (Halted faults)) _ _ c.from_residual.ensures.1
    (halted-by faults _ (λ refusal row. record { fault = c.in_err-outcomes.field-0.0; refuses = c.in_err-outcomes.ensures.least; is = row }))
