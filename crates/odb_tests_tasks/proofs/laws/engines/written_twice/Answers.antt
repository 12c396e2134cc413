use Rattle.std.proofs.Common.{Some}
use Rattle.odb_engine.specs.Contents.Given.{ByReader}
use Rattle.odb_engine.specs.declared.form.Form.TheVariants.{Lines}
use Rattle.odb_engine.specs.Tasks.{OfDocuments}
use Rattle.odb_tests_tasks.proofs.LawLemmas.{one_written}
use Rattle.odb_tests_tasks.proofs.laws.engines.written_twice.Goals as goal

pub returns : goal.returns
returns c =
    let second = c.args.second.now in
    one_written (λ it. it.0) (λ it. it.1.items) c.args.batch.now (c.one_document.ensures c.args.batch.now) (λ bytes. OfDocuments c.args.task (ByReader (Some second)) bytes Lines) (λ bytes. c.one_text.ensures.task c.args.task Lines bytes second) c.written.result c.written-2.result c.written.ensures c.written-2.ensures
