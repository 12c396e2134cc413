-- What the run says of its state holds with the requests of the plan.
use Rattle.std.proofs.Common.{◌∙◌, ap}
use Rattle.std.proofs.lemmas.Result.{on_ok_weaker, on_err_weaker, IfErr-weaker}
use Rattle.odb_check.specs.Plans.{plan_records}
use Rattle.odb_check.specs.PlanGraph.{unit_of}
use Rattle.odb_sched.specs.run.State.{State, with_requests}
use Rattle.odb_sched.specs.run.Steps.{spare_in}
use Rattle.odb_sched.proofs.LaneLemmas.{none_spare_after}
use Rattle.odb_sched.proofs.OwnedLemmas.{either_way, report_cause_with}
use Rattle.odb_sched.proofs.scheduler.Scheduler.report.Goals as goal

pub invariant_of-self : goal.invariant_of-self
invariant_of-self c = record {
  of_plan = either_way c.report.result c.report.ensures.ok c.report.ensures.err (λ is. ap (λ (s : State). s.plan_graph) is ∙ c.self.invariant.of_plan) (λ is. ap (λ (s : State). s.plan_graph) is ∙ c.self.invariant.of_plan);
  going = either_way c.report.result c.report.ensures.ok c.report.ensures.err (λ is. ap (λ (s : State). s.closed) is ∙ c.self.invariant.going) (λ is. ap (λ (s : State). s.closed) is ∙ c.self.invariant.going);
  one_by_one = either_way c.report.result c.report.ensures.ok c.report.ensures.err
      (λ is. ap (λ (s : State). spare_in s.awaited) is ∙ none_spare_after c.self.inside.run.awaited (unit_of c.self.inside.run.plan_graph c.args.i) c.self.invariant.one_by_one) (λ is. ap (λ (s : State). spare_in s.awaited) is ∙ c.self.invariant.one_by_one);
}

pub returns-clause-ok : goal.returns-clause-ok
returns-clause-ok c = rw (← c.self.view_is)
    (on_ok_weaker c.report.result (ap (with_requests (plan_records c.self.inside.plan.now))) c.report.ensures.ok)

pub returns-clause-cause : goal.returns-clause-cause
returns-clause-cause c = rw (← c.self.view_is)
    (IfErr-weaker c.report.result _ _ (λ e. report_cause_with (plan_records c.self.inside.plan.now) c.self.inside.run c.args.i c.args.outcome e.0) c.report.ensures.cause)

pub returns-clause-err : goal.returns-clause-err
returns-clause-err c = rw (← c.self.view_is)
    (on_err_weaker c.report.result (ap (with_requests (plan_records c.self.inside.plan.now))) c.report.ensures.err)
