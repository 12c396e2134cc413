use Rattle.std.proofs.Common.{true}
use Rattle.odb_calls.specs.Steps as specs
use Rattle.odb_calls.proofs.StepLemmas.{adds-if, adds-none}
use Rattle.odb_calls.proofs.steps.push_report_if.Goals as goal
use Rattle.odb_calls.proofs.steps.push_report_if.Goals.{then-wanted+in_ok-step+in_ok-push_if, else-wanted}

pub returns-clause-steps : goal.returns-clause-steps
returns-clause-steps c =
    let document = c.args.document.now in
    let old = c.args.steps.now.items in
    elim c.if-wanted.branch [
      | then-wanted+in_ok-step+in_ok-push_if w ↦ rw (w.steps-is, w.if-wanted.true) (adds-if document true (specs.Report c.args.reply) w.in_ok-step.step old w.push_if.new.steps.items w.in_ok-step.ensures.step w.in_ok-push_if.ensures)
      | else-wanted w ↦ rw (w.steps-is, w.if-wanted.false) (adds-none document old)
    ]
