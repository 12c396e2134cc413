use Rattle.odb_check.specs.Plans.{plan_records}
use Rattle.odb_sched.specs.declared.event.Event.TheVariants.{Report}
use Rattle.odb_sched.specs.run.LiveEvents.{Single}
use Rattle.odb_tests_exec.proofs.LiveRunLemmas.{by_result}
use Rattle.odb_tests_exec.proofs.laws.driven.reports.Goals as goal

pub returns : goal.returns
returns c = λ policy. by_result c.report.result (plan_records c.args.plan.now) policy c.args.run.now c.report.new.self (Single (Report c.args.i c.args.outcome)) (c.every_live_run.ensures.goes_on (plan_records c.args.plan.now)) c.requires c.report.ensures.allowed c.report.ensures.ok c.report.ensures.err
