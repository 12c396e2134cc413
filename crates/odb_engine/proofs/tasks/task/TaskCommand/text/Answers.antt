use Rattle.std.proofs.Common.{refl, subst}
use Rattle.serde_json.specs.View.{view}
use Rattle.odb_doc.specs.batch.Batches.{records}
use Rattle.odb_engine.specs.Halts.{Found}
use Rattle.odb_engine.specs.Tasks.{OfValues}
use Rattle.odb_engine.proofs.tasks.task.TaskCommand.text.Goals as goal

pub returns-in-Check-clause-found : goal.returns-in-Check-clause-found
returns-in-Check-clause-found c = rw c.in-Check.is c.counts_text.ensures.found

pub returns-in-Plan-clause-found : goal.returns-in-Plan-clause-found
returns-in-Plan-clause-found c = rw c.in-Plan.is c.planned_by.ensures.found

pub returns-in-Draw-clause-found : goal.returns-in-Draw-clause-found
returns-in-Draw-clause-found c = rw c.in-Draw.is (c.drawn_text.ensures.found c.args.setup.form)

pub returns-in-Canon-clause-found : goal.returns-in-Canon-clause-found
returns-in-Canon-clause-found c =
    let second = view c.args.second in
    let here : Found (OfValues c.args.self.now c.args.document.now second (records c.args.batch.now)) c.args.setup.form c.canonical_text.result = rw c.in-Canon.is (c.canonical_text.ensures.found c.args.setup.form) in
    subst (λ requests. Found (OfValues c.args.self.now c.args.document.now second requests) c.args.setup.form c.canonical_text.result) c.requires.batch here

pub returns-in-Match-clause-found : goal.returns-in-Match-clause-found
returns-in-Match-clause-found c = rw c.in-Match.is c.matched.ensures.found

pub left_over-requires-clause-document : goal.left_over-requires-clause-document
left_over-requires-clause-document c = c.requires.document (rw c.in-Rest.is refl)

pub returns-in-Rest-clause-found : goal.returns-in-Rest-clause-found
returns-in-Rest-clause-found c = rw c.in-Rest.is (c.left_over.ensures.found c.args.setup.form)

pub returns-in-Replay-clause-found : goal.returns-in-Replay-clause-found
returns-in-Replay-clause-found c = rw c.in-Replay.is (c.replayed.ensures.found c.args.setup.form)

pub returns-in-Run-clause-found : goal.returns-in-Run-clause-found
returns-in-Run-clause-found c = rw c.in-Run.is (c.ran.ensures.found c.args.setup.form)
