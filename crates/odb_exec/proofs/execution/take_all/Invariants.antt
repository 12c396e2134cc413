use Rattle.std.proofs.Common.{◌≤◌, ◌+◌, length}
use Rattle.std.specs.Vec.{vec_capacity}
use Rattle.odb_check.specs.Plans.{plan_records}
use Rattle.odb_sched.specs.run.State.{initial}
use Rattle.odb_exec.specs.Calls.{AsksAll, Behind, PicksAll}
use Rattle.odb_exec.proofs.CourseLemmas.{SoFar, events_left}
use Rattle.odb_exec.proofs.execution.take_all.Given as goal

-- the steps so far, and room for the remaining ones
abbrev pub invariant-loop-step : goal.invariant-loop-step
invariant-loop-step g l = record {
  far : SoFar ((goal.Chooser-dyn g l.fn.chooser.now).allows l.fn.chooser.now.1) ((goal.Chooser-dyn g l.chooser.now).allows l.chooser.now.1)
      (g.S.Service.offers l.fn.service) (g.S.Service.offers l.service)
      (initial l.fn.plan l.fn.scheduler.policy) l.scheduler l.steps.items;
  calls : AsksAll g.S.Service.performs (plan_records l.fn.plan) far.events l.fn.service l.service;
  choices : PicksAll (Behind (λ z. (goal.Chooser-dyn g z).chooses z.1)) (λ z. (goal.Chooser-dyn g z).names z.1) (initial l.fn.plan l.fn.scheduler.policy) far.events l.fn.chooser.now l.chooser.now;
  room : length l.steps.items + events_left l.scheduler ≤ vec_capacity l.steps;
}

abbrev pub decreases-loop-step : goal.decreases-loop-step
decreases-loop-step g l = events_left l.scheduler
