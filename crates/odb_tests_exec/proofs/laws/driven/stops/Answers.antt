use Rattle.std.proofs.Common.{refl}
use Rattle.odb_check.specs.Plans.{plan_records}
use Rattle.odb_sched.specs.run.LiveEvents.{Stop}
use Rattle.odb_tests_exec.proofs.LiveRunLemmas.{one_more}
use Rattle.odb_tests_exec.proofs.laws.driven.stops.Goals as goal

pub returns : goal.returns
returns c = λ policy is. one_more (plan_records c.args.plan.now) policy c.args.run.now c.stop.new.self Stop (c.every_live_run.ensures.goes_on (plan_records c.args.plan.now)) is tt refl c.stop.ensures
