use Rattle.std.proofs.Common.{rules, subst, OnOk, ◌≡◌}
use Rattle.odb_check.specs.Plans.{plan_records}
use Rattle.odb_sched.specs.run.State.{started}
use Rattle.odb_exec.proofs.CourseLemmas.{taken-start_by}
use Rattle.odb_exec.proofs.execution.take.Goals as goal

pub returns-in-Start-clause-taken : goal.returns-in-Start-clause-taken
returns-in-Start-clause-taken g c = taken-start_by g.S.Service.performs (plan_records c.args.plan.now) (g.S.Service.offers c.args.service.now) c.args.scheduler.now c.start.new.self _ c.args.step c.in-Start.i c.in-Start.is c.requires.may
    (subst (λ returned. OnOk returned (c.start.new.self ≡ started c.args.scheduler.now c.in-Start.i)) c.unwrap.ensures c.start.ensures.ok)

pub returns-in-Start-clause-fault : goal.returns-in-Start-clause-fault
returns-in-Start-clause-fault g c = search rules
