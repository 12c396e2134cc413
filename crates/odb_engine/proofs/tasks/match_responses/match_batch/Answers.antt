use Rattle.odb_engine.proofs.tasks.match_responses.match_batch.Goals as goal

pub returns-clause-ends : goal.returns-clause-ends
returns-clause-ends g c = c.answer_by_default.ensures.ends
