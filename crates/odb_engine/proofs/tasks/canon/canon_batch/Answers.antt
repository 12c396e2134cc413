use Rattle.odb_engine.proofs.tasks.canon.canon_batch.Goals as goal

pub returns-clause-ends : goal.returns-clause-ends
returns-clause-ends g c = c.answer_one.ensures.ends
