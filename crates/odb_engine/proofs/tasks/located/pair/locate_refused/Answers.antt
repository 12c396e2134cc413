use Rattle.odb_engine.proofs.tasks.located.pair.locate_refused.Goals as goal

pub returns-then-all : goal.returns-then-all
returns-then-all c = rw c.if-all.true c.located_answer.ensures

pub returns-then-two : goal.returns-then-two
returns-then-two c = rw (c.if-all.false, c.if-two.true) c.locate_in_either.ensures

pub returns : goal.returns
returns c = rw (c.if-all.false, c.if-two.false) c.locate.ensures
