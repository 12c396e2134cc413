use Rattle.std.proofs.Common.{IfOk, subst}
use Rattle.odb_engine.specs.declared.form.Form.{Form}
use Rattle.odb_calls.specs.Returns.{Does}
use Rattle.odb_calls.proofs.ReturnLemmas.{returned}
use Rattle.odb_calls.proofs.answer.answer.Goals as goal

pub returns : goal.returns
returns c =
    let writes = λ (form : Form). Does c.args.task form c.args.batch.now c.args.second.now in
    let answer = subst (λ (form : Form). IfOk c.answer_in_memory-answer.result (λ answer. writes form answer.ended answer.text.items)) c.setup_of-setup.ensures.form (c.answer_in_memory-answer.ensures.plain c.setup_of-setup.ensures.located) in
    returned (writes c.args.form) c.answer_in_memory-answer.result c.give.result c.give.new.text_length c.args.buffer.now c.give.new.buffer answer c.give.ensures.ok c.give.ensures.err
