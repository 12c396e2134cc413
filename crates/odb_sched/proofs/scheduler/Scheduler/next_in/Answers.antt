use Rattle.std.proofs.lemmas.Option.{IfSome_then}
use Rattle.odb_check.specs.Plans.{plan_records}
use Rattle.odb_sched.specs.run.Choosing.{AllowsOrder}
use Rattle.odb_sched.proofs.OwnedLemmas.{next_with}
use Rattle.odb_sched.proofs.scheduler.Scheduler.next_in.Goals as goal

pub returns-clause-next : goal.returns-clause-next
returns-clause-next c = rw (← c.self.view_is)
    (IfSome_then c.next_in.result c.next_in.ensures.next (next_with (AllowsOrder c.args.order) (plan_records c.self.inside.plan.now) c.self.inside.run))
