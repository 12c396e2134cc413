use Rattle.odb_engine.specs.declared.ending.Ended.TheVariants.{Done}
use Rattle.odb_tests_tasks.proofs.laws.written.ended.Goals as goal

pub returns : goal.returns
returns c = λ done.
    let it = done c.args.form in
    let answer = c.in_ok-answer.answer in
    (c.one_text.ensures.memory c.args.task c.args.form c.args.batch.now c.args.second.now answer.0 Done answer.1.items it.0 c.in_ok-answer.ensures it.1).0
