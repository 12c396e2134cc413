use Rattle.std.proofs.Common.{ℕ, List, Some, Bor, subst}
use Rattle.odb_io.specs.Devices.{Reading}
use Rattle.odb_engine.specs.Contents.Given.{ByReader}
use Rattle.odb_engine.specs.declared.form.Form.TheVariants.{Lines}
use Rattle.odb_engine.specs.Tasks.{OfDocuments}
use Rattle.odb_tests_tasks.proofs.MemoryLemmas.{document-of, text-in}
use Rattle.odb_tests_tasks.proofs.laws.engines.written.Goals as goal

pub returns-in-Ok : goal.returns-in-Ok
returns-in-Ok c =
    let e = c.in-Ok.ensures in
    let Is : Reading (Bor (List ℕ)) → List ℕ → Type 0 = λ r. OfDocuments c.args.task (ByReader (Some r.reader.now)) e.0 Lines c.in-Ok.ended in (
      e.0,
      document-of c.args.batch c.new-2.result e.0 c.new-2.ensures e.1,
      subst (λ (r : Reading (Bor (List ℕ))). Is r c.into_inner.result.items) c.new-3.ensures
          (text-in (Is c.new-3.result) c.new.result c.into_inner.result c.new-output.result c.called_plainly.new.output c.new.ensures.items c.new-output.ensures c.into_inner.ensures e.2),
    )
