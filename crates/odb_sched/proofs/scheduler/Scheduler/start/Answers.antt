-- What the run says of its state holds with the requests of the plan.
use Rattle.std.proofs.Common.{◌≡◌, ◌↔◌, ◌∙◌, ap, subst, sym, IsOk, IsTrue}
use Rattle.std.proofs.lemmas.Result.{on_ok_weaker, on_err_weaker, IfErr-weaker}
use Rattle.odb_check.specs.Plans.{plan_records}
use Rattle.odb_sched.specs.run.Steps.{spare_in, may_start}
use Rattle.odb_sched.specs.run.Laws.{HaveSucceeded}
use Rattle.odb_sched.specs.run.State.{State, plan_graph, with_requests}
use Rattle.odb_sched.proofs.OwnedLemmas.{either_way, ok_so, start_cause_with}
use Rattle.odb_sched.proofs.scheduler.Scheduler.start.Goals as goal

pub invariant_of-self : goal.invariant_of-self
invariant_of-self c = record {
  of_plan = either_way c.start.result c.start.ensures.ok c.start.ensures.err (λ is. ap (λ (s : State). s.plan_graph) is ∙ c.self.invariant.of_plan) (λ is. ap (λ (s : State). s.plan_graph) is ∙ c.self.invariant.of_plan);
  going = either_way c.start.result c.start.ensures.ok c.start.ensures.err (λ is. ap (λ (s : State). s.closed) is ∙ c.self.invariant.going) (λ is. ap (λ (s : State). s.closed) is ∙ c.self.invariant.going);
  one_by_one = either_way c.start.result c.start.ensures.ok c.start.ensures.err (λ is. ap (λ (s : State). spare_in s.awaited) is ∙ c.self.invariant.one_by_one) (λ is. ap (λ (s : State). spare_in s.awaited) is ∙ c.self.invariant.one_by_one);
}

pub returns-clause-ok : goal.returns-clause-ok
returns-clause-ok c = rw (← c.self.view_is)
    (on_ok_weaker c.start.result (ap (with_requests (plan_records c.self.inside.plan.now))) c.start.ensures.ok)

pub returns-clause-allowed : goal.returns-clause-allowed
returns-clause-allowed c = subst (λ state. IsOk c.start.result ↔ IsTrue (may_start state c.args.i)) c.self.view_is c.start.ensures.allowed

pub returns-clause-cause : goal.returns-clause-cause
returns-clause-cause c = rw (← c.self.view_is)
    (IfErr-weaker c.start.result _ _ (start_cause_with (plan_records c.self.inside.plan.now) c.self.inside.run c.args.i) c.start.ensures.cause)

pub returns-clause-err : goal.returns-clause-err
returns-clause-err c = rw (← c.self.view_is)
    (on_err_weaker c.start.result (ap (with_requests (plan_records c.self.inside.plan.now))) c.start.ensures.err)

pub returns-clause-dependencies_first : goal.returns-clause-dependencies_first
returns-clause-dependencies_first c = ok_so c.start.result (λ is_ok.
    let same : c.args.self.now.plan_graph ≡ plan_graph c.self.inside.plan.now = ap (λ (s : State). s.plan_graph) (sym c.self.view_is) ∙ c.self.invariant.of_plan in
    subst (λ requests. HaveSucceeded requests c.args.self.now c.args.i) (ap (λ (s : State). s.requests) c.self.view_is)
    (c.every_start.ensures.dependencies_first c.args.self.now c.args.i same ((returns-clause-allowed c).0 is_ok)))
