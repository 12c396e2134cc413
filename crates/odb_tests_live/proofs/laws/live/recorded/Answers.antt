use Rattle.std.proofs.Common.{subst}
use Rattle.odb_engine.specs.Contents.Given.{InMemory}
use Rattle.odb_engine.specs.Tasks.{OfDocuments}
use Rattle.odb_engine.specs.declared.tasks.task.Task.TheVariants.{Run}
use Rattle.odb_tests_live.proofs.laws.live.recorded.Goals as goal

pub returns-in-Ok : goal.returns-in-Ok
returns-in-Ok c = subst (λ form. OfDocuments (Run c.args.policy) (InMemory c.args.events.now) c.args.batch.now form c.in-Ok.answer.ended c.in-Ok.answer.text.items) c.plain.ensures.form (c.in-Ok.ensures.plain c.plain.ensures.located)
