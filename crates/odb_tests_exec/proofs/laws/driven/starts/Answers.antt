use Rattle.odb_check.specs.Plans.{plan_records}
use Rattle.odb_sched.specs.declared.event.Event.TheVariants.{Start}
use Rattle.odb_sched.specs.run.LiveEvents.{Single}
use Rattle.odb_tests_exec.proofs.LiveRunLemmas.{by_result}
use Rattle.odb_tests_exec.proofs.laws.driven.starts.Goals as goal

pub returns : goal.returns
returns c = λ policy. by_result c.start.result (plan_records c.args.plan.now) policy c.args.run.now c.start.new.self (Single (Start c.args.i)) (c.every_live_run.ensures.goes_on (plan_records c.args.plan.now)) c.requires c.start.ensures.allowed c.start.ensures.ok c.start.ensures.err
