use Rattle.std.proofs.Common.{Bool, false, subst}
use Rattle.odb_engine.specs.Cascade.{Writes}
use Rattle.odb_engine.specs.declared.form.Form.{Form}
use Rattle.odb_engine.specs.lines.Numbers.{OfNumbered}
use Rattle.odb_tests_tasks.proofs.laws.engines.line_answered.Goals as goal

pub returns-in-Ok : goal.returns-in-Ok
returns-in-Ok c =
    let setup = c.in_form.result in
    let answer = c.in-Ok.answer in
    let P : Bool → Bool → Form → Writes = λ numbered located form. OfNumbered numbered located _ c.args.task 1 c.args.line.now form in
    let here : P setup.faults.numbered setup.faults.located setup.form answer.ended answer.text.items = c.in-Ok.ensures in
    let plain = subst (λ numbered. P numbered setup.faults.located setup.form answer.ended answer.text.items) c.in_form.ensures.numbered here in
    let unlocated = subst (λ located. P false located setup.form answer.ended answer.text.items) c.in_form.ensures.located plain in
    subst (λ form. P false false form answer.ended answer.text.items) c.in_form.ensures.form unlocated
