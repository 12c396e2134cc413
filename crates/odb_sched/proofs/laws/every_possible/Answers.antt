-- The run is built from the statuses, and what a run answers is possible.
use Rattle.odb_sched.proofs.WitnessLemmas.{has_run, possible-from_run}
use Rattle.odb_sched.proofs.laws.every_possible.Goals as goal

pub returns : goal.returns
returns c = λ mode statuses. (
  has_run c.args.plan.now mode statuses c.every_plan.ensures.order,
  possible-from_run c.args.plan.now mode statuses c.every_plan.ensures.order,
)
