use Rattle.odb_engine.specs.declared.form.Form.TheVariants.{Lines}
use Rattle.odb_calls.specs.ReportFaults.{ChecksReport}
use Rattle.odb_calls.proofs.AnswerLemmas.{answered-in}
use Rattle.odb_calls.proofs.ReturnLemmas.{returned}
use Rattle.odb_calls.proofs.report_faults.give_fault.Goals as goal

pub returns : goal.returns
returns c =
    let P = ChecksReport c.args.headers.now c.args.body.now in
    returned (P Lines) c.of.result c.give.result c.give.new.text_length c.args.text.now c.give.new.buffer (answered-in Lines P c.checked-found.result c.of.result c.checked-found.ensures c.of.ensures) c.give.ensures.ok c.give.ensures.err
