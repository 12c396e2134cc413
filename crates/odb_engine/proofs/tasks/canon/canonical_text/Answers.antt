use Rattle.std.proofs.Common.{Err, ap}
use Rattle.odb_doc.specs.batch.Batches.{records}
use Rattle.odb_engine.specs.Commands.{Canonical}
use Rattle.odb_engine.specs.Halts.{Found}
use Rattle.odb_engine.proofs.EngineLemmas.{at-exit}
use Rattle.odb_engine.proofs.TextLemmas.{halt-text}
use Rattle.odb_engine.proofs.tasks.canon.canonical_text.Goals as goal

pub returns-in_err-text-clause-found : goal.returns-in_err-text-clause-found
returns-in_err-text-clause-found c =
    let batch = records c.args.batch.now in
    λ form. at-exit (Found (Canonical batch) form) _ _ c.from_residual.ensures.1 (halt-text batch form c.in_err-text.field-0.0 (λ at is. (c.in_err-text.ensures.not_whole at).0 (ap Err is)))
