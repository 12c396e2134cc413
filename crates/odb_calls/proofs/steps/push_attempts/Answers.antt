use Rattle.odb_calls.specs.Steps as specs
use Rattle.odb_calls.proofs.StepLemmas.{adds-attempts, also-done}
use Rattle.odb_calls.proofs.steps.push_attempts.Goals as goal

pub returns-clause-steps : goal.returns-clause-steps
returns-clause-steps c =
    let document = c.args.document.now in
    let pass = c.args.pass in
    let reply = c.args.reply in
    let told = c.reports.result in
    let first = c.push_if.new.steps.items in
    let second = c.push_if-2.new.steps.items in
    let new = c.push_report_if.new.steps.items in
    also-done c.push_report_if.result (specs.Adds document (specs.if_wanted told (specs.Report reply)) second new) (specs.Adds document (specs.attempts_with pass reply) c.args.steps.now.items new)
    (adds-attempts document pass reply c.starts_unit.result c.starts_alone.result told c.args.steps.now.items first second new c.starts_unit.ensures c.starts_alone.ensures c.reports.ensures c.in_ok-push_if.ensures c.in_ok-push_if-2.ensures) c.push_report_if.ensures.steps
