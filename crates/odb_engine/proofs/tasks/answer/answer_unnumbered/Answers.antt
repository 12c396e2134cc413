use Rattle.std.proofs.Common.{IfOk, Result, map, subst}
use Rattle.std.proofs.lemmas.Result.{IfOk-weaker}
use Rattle.odb_doc.specs.Refusals.{printed}
use Rattle.odb_engine.specs.declared.halt.Halt.{Halt}
use Rattle.odb_engine.specs.declared.tasks.answer.Answer.{Answer}
use Rattle.odb_engine.specs.lines.Numbers.{OfLocated}
use Rattle.odb_engine.proofs.LocatedLemmas.{line-in}
use Rattle.odb_engine.proofs.tasks.answer.answer_unnumbered.Goals as goal

pub returns : goal.returns
returns c =
    let located = c.args.setup.faults.located in
    let form = c.args.setup.form in
    let found = c.text_of_line-found.result in
    let prints = rw (c.lists_all-all.ensures, c.takes_second.ensures, c.deref.ensures.value) at c.print_found.ensures.prints in
    IfOk-weaker c.of_memory.result _ _
    (λ answer is. subst (λ (r : Result Answer Halt). IfOk r (λ answer. OfLocated located c.args.name.now c.args.task c.args.number c.args.line.now form answer.ended answer.text.items)) is
    (line-in located c.args.task form c.args.name.now c.args.number c.args.line.now (map printed c.text_of_line-found.new.faults.items) found c.print_found.result c.text_of_line-found.ensures.found c.text_of_line-found.ensures.listed prints)) c.of_memory.ensures
