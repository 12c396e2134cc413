use Rattle.std.proofs.Common.{ℕ, List, IfOk, subst}
use Rattle.odb_engine.specs.Contents.Given.{ByReader}
use Rattle.odb_engine.specs.Engines.{WritesText}
use Rattle.odb_engine.specs.Inputs.{SomeDocument}
use Rattle.odb_engine.specs.declared.form.Form.{Form}
use Rattle.odb_engine.specs.Tasks.{OfDocuments}
use Rattle.odb_tests_tasks.proofs.LawLemmas.{written-of}
use Rattle.odb_tests_tasks.proofs.engines.called_plainly.Goals as goal

pub returns-in-Canon : goal.returns-in-Canon
returns-in-Canon g c = rw c.in-Canon.is (written-of g.W.Write.contents c.args.output.now c.canon_batch.new.output _ _ _ c.canon_batch.result (λ bytes e. e.ended) c.canon_batch.ensures.ends)

pub returns-in-Run : goal.returns-in-Run
returns-in-Run g c = rw c.in-Run.is (written-of g.W.Write.contents c.args.output.now c.run_batch.new.output _ _ _ c.run_batch.result (λ bytes e. e.0.ended) c.run_batch.ensures.ends)

pub returns-in_default : goal.returns-in_default
returns-in_default g c =
    let W : Form → List ℕ → _ = λ form bytes. OfDocuments c.args.task (ByReader (g.S.Read.remaining c.args.second.now.reader)) bytes form in
    subst (λ form. IfOk c.answer_documents.result (λ ended. SomeDocument (g.R.Read.remaining c.args.batch.now.reader) (λ bytes. WritesText (g.W.Write.contents c.args.output.now.writer) (g.W.Write.contents c.answer_documents.new.output.writer) (λ text. W form bytes ended text)))) c.plain.ensures.form
    (written-of g.W.Write.contents c.args.output.now c.answer_documents.new.output (λ bytes. W c.plain.result.form bytes) _ _ c.answer_documents.result (λ bytes e. e.0.ended) (c.answer_documents.ensures.plain c.plain.ensures.located))
