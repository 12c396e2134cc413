use Rattle.std.proofs.Common.{◌⊎◌, [], IsTrue, inl, inr}
use Rattle.odb_engine.specs.Contents.Given.{InMemory}
use Rattle.odb_engine.specs.declared.form.Form.TheVariants.{Lines}
use Rattle.odb_engine.specs.Tasks.{OfDocuments}
use Rattle.odb_engine.proofs.EngineLemmas.{Ends-weaker}
use Rattle.odb_engine.proofs.tasks.task.answer_one.Goals as goal

pub returns-clause-ends : goal.returns-clause-ends
returns-clause-ends g c =
    let failed = IsTrue c.answer_by_default.new.first.failed in
    let (bytes, gives, both) = c.answer_by_default.ensures.ends in
    let writes = OfDocuments c.args.task (InMemory []) bytes Lines in (
      bytes,
      gives,
      Ends-weaker g.W.Write.contents writes writes (failed ⊎ ⊥) failed c.args.output.now c.answer_by_default.new.output c.answer_by_default.result (λ ended text so. so)
          ((λ either. elim either [ inl so ↦ so | inr none ↦ absurd none ]), inl) both.0,
    )
