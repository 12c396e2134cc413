use Rattle.std.proofs.Common.{subst}
use Rattle.odb_engine.specs.Contents.Given.{InMemory}
use Rattle.odb_engine.specs.Tasks.{OfDocuments}
use Rattle.odb_tests_tasks.proofs.laws.engines.answered.Goals as goal

pub returns-in-Ok : goal.returns-in-Ok
returns-in-Ok c = subst (λ form. OfDocuments c.args.task (InMemory c.args.second.now) c.args.batch.now form c.in-Ok.answer.ended c.in-Ok.answer.text.items) c.in_form.ensures.form (c.in-Ok.ensures.plain c.in_form.ensures.located)
