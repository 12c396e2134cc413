use Rattle.odb_engine.specs.Contents.Given.{InMemory}
use Rattle.odb_engine.specs.Tasks.{OfDocuments}
use Rattle.odb_testing.proofs.ReadingLemmas.{one_of}
use Rattle.odb_tests_tasks.proofs.laws.engines.answered_twice.Goals as goal

pub returns : goal.returns
returns c =
    one_of (λ it. it.0) (λ it. it.1.items) (OfDocuments c.args.task (InMemory c.args.second.now) c.args.batch.now c.args.form) (c.one_text.ensures.memory c.args.task c.args.form c.args.batch.now c.args.second.now) c.answered.result c.answered-2.result c.answered.ensures c.answered-2.ensures
