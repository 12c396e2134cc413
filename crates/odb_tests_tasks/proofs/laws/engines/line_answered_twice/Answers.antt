use Rattle.odb_engine.specs.Tasks.{OfWholeLine}
use Rattle.odb_testing.proofs.ReadingLemmas.{one_of}
use Rattle.odb_tests_tasks.proofs.laws.engines.line_answered_twice.Goals as goal

pub returns : goal.returns
returns c =
    let line = c.args.line.now in
    one_of (λ it. it.0) (λ it. it.1.items) (OfWholeLine c.args.task line c.args.form) (c.one_text.ensures.line c.args.task c.args.form line) c.line_answered.result c.line_answered-2.result c.line_answered.ensures c.line_answered-2.ensures
