use Rattle.std.proofs.Common.{IfOk, Result, false, subst, true}
use Rattle.std.proofs.lemmas.Result.{IfOk-weaker}
use Rattle.odb_engine.specs.Contents.Content.{Bytes}
use Rattle.odb_engine.specs.Located.{OfContents}
use Rattle.odb_engine.specs.Tasks.{OfValues, lists_all, second_place}
use Rattle.odb_engine.specs.declared.halt.Halt.{Halt}
use Rattle.odb_engine.specs.declared.tasks.answer.Answer.{Answer}
use Rattle.odb_engine.proofs.tasks.documents.answer_in_memory.Goals as goal

pub returns-clause-plain : goal.returns-clause-plain
returns-clause-plain c = λ plain.
    let task = c.args.task in
    let names = c.args.names in
    let written = λ (located : _) (answer : Answer). OfContents located (lists_all task) (second_place task) (OfValues task) names.batch.now (Bytes c.args.batch.now) names.second.now (Bytes c.args.second.now) c.args.setup.form answer.ended answer.text.items in
    let so = subst (λ located. IfOk c.answer_of.result (written located)) plain c.answer_of.ensures.found.0 in
    IfOk-weaker c.of_memory.result _ _ (λ answer is. subst (λ (r : Result Answer Halt). IfOk r (written false)) is so) c.of_memory.ensures

pub returns-clause-located : goal.returns-clause-located
returns-clause-located c = λ located.
    let task = c.args.task in
    let names = c.args.names in
    let written = λ (located : _) (answer : Answer). OfContents located (lists_all task) (second_place task) (OfValues task) names.batch.now (Bytes c.args.batch.now) names.second.now (Bytes c.args.second.now) c.args.setup.form answer.ended answer.text.items in
    let so = subst (λ located. IfOk c.answer_of.result (written located)) located c.answer_of.ensures.found.0 in
    IfOk-weaker c.of_memory.result _ _ (λ answer is. subst (λ (r : Result Answer Halt). IfOk r (written true)) is so) c.of_memory.ensures
