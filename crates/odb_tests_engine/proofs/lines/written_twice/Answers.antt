use Rattle.std.proofs.Common.{Bool, false, subst, sym}
use Rattle.odb_engine.specs.declared.form.Form.{Form}
use Rattle.odb_engine.specs.declared.tasks.task.Task.{Task}
use Rattle.odb_engine.specs.Cascade.{Writes, IsOne}
use Rattle.odb_engine.specs.lines.Answers.{AnswersEach, OfAnyLine}
use Rattle.odb_engine.specs.lines.Lines.{lines_of}
use Rattle.odb_engine.specs.lines.Numbers.{OfNumbered}
use Rattle.odb_testing.proofs.ReadingLemmas.{one_of}
use Rattle.odb_tests_engine.proofs.lines.written_twice.Goals as goal

pub returns : goal.returns
returns c =
    let command = c.on_each_line-command.result in
    let faults = command.setup.faults in
    let lines = lines_of c.args.log.now in
    one_of (λ it. it.0) (λ it. it.1.items) (AnswersEach (OfAnyLine (λ number line. OfNumbered faults.numbered faults.located command.name.now command.task number line command.setup.form)) lines) (c.one_text-2.ensures lines)
    c.written.result c.written-2.result c.written.ensures c.written-2.ensures

pub one_text-requires-2 : goal.one_text-requires-2
one_text-requires-2 c number bytes =
    let each = c.on_each_line-command in
    let command = each.result in
    let faults = command.setup.faults in
    let P : Bool → Bool → Form → Task → Writes = λ numbered located form task. OfNumbered numbered located command.name.now task number bytes form in
    let plain = c.one_text.ensures.line c.args.task c.args.form bytes in
    let of_task = subst (λ task. IsOne (P false false c.args.form task)) (sym each.ensures.task) plain in
    let of_form = subst (λ form. IsOne (P false false form command.task)) (sym each.ensures.form) of_task in
    let unlocated = subst (λ located. IsOne (P false located command.setup.form command.task)) (sym each.ensures.located) of_form in
    subst (λ numbered. IsOne (P numbered faults.located command.setup.form command.task)) (sym each.ensures.numbered) unlocated
