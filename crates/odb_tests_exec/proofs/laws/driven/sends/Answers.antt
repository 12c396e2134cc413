use Rattle.odb_check.specs.Plans.{plan_records}
use Rattle.odb_sched.specs.run.LiveEvents.{StartUnit}
use Rattle.odb_tests_exec.proofs.LiveRunLemmas.{by_result}
use Rattle.odb_tests_exec.proofs.laws.driven.sends.Goals as goal

pub returns : goal.returns
returns c = λ policy. by_result c.start_unit.result (plan_records c.args.plan.now) policy c.args.run.now c.start_unit.new.self (StartUnit c.args.u) (c.every_live_run.ensures.goes_on (plan_records c.args.plan.now)) c.requires c.start_unit.ensures.allowed c.start_unit.ensures.ok c.start_unit.ensures.err
