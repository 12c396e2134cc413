-- An execution is what its steps make of the run.
use Rattle.std.proofs.Common.{◌≡◌, ◌∙◌, inl, inr, ap, refl, sym, subst}
use Rattle.odb_sched.specs.run.State.{State, initial}
use Rattle.odb_check.specs.Plans.{plan_records}
use Rattle.odb_exec.specs.Calls.{IsBrokenOff, IsExecution, Behind}
use Rattle.odb_exec.specs.Courses.{IsCausedBy, IsReportEnabled}
use Rattle.odb_sched.specs.declared.policy.Policy.{Policy}
use Rattle.odb_exec.specs.declared.execution.ExecFault.TheVariants.{OutOfMemory}
use Rattle.odb_exec.proofs.CourseLemmas.{finished-within, finished-requests, finished-offered, same_error}
use Rattle.odb_exec.proofs.PickLemmas.{unasked, cut-unasked}
use Rattle.odb_exec.proofs.execution.execute.Goals as goal

pub returns-clause-execution : goal.returns-clause-execution
returns-clause-execution g c =
    let same : c.in_ok-scheduler.scheduler.policy ≡ c.args.policy = ap (λ (s : State). s.policy) c.in_ok-scheduler.ensures.first in
    let Is = λ (policy : Policy) (done : State). IsExecution ((goal.Chooser-dyn g c.args.chooser.now).allows c.args.chooser.now.1) (g.S.Service.offers c.args.service.now) g.S.Service.performs
    (Behind (λ z. (goal.Chooser-dyn g z).chooses z.1)) (λ z. (goal.Chooser-dyn g z).names z.1) (plan_records c.args.plan.now)
    (initial c.args.plan.now policy) c.args.service.now c.take_all.new.service c.args.chooser.now (c.args.chooser.now.0, c.take_all.new.chooser)
    c.take_all.new.steps.items done in
    subst (λ policy. Is policy c.close.result) same (subst (Is c.in_ok-scheduler.scheduler.policy) (sym c.close.ensures.state) c.in_ok-take_all.ensures.execution)

pub returns-clause-one_result : goal.returns-clause-one_result
returns-clause-one_result g c continues = c.close.ensures.one_result (ap (λ (p : Policy). p.mode) (c.in_ok-take_all.ensures.policy ∙ ap (λ (s : State). s.policy) c.in_ok-scheduler.ensures.first) ∙ continues)

pub returns-clause-within : goal.returns-clause-within
returns-clause-within g c =
    finished-within c.args.plan.now c.args.policy ((goal.Chooser-dyn g c.args.chooser.now).allows c.args.chooser.now.1) (g.S.Service.offers c.args.service.now)
    c.take_all.new.steps.items c.close.result (returns-clause-execution g c).course

pub returns-clause-offered : goal.returns-clause-offered
returns-clause-offered g c =
    finished-offered c.args.plan.now c.args.policy ((goal.Chooser-dyn g c.args.chooser.now).allows c.args.chooser.now.1) (g.S.Service.offers c.args.service.now)
    c.take_all.new.steps.items c.close.result (returns-clause-execution g c).course

pub returns-clause-plan : goal.returns-clause-plan
returns-clause-plan g c =
    finished-requests c.args.plan.now c.args.policy ((goal.Chooser-dyn g c.args.chooser.now).allows c.args.chooser.now.1) (g.S.Service.offers c.args.service.now)
    c.take_all.new.steps.items c.close.result (returns-clause-execution g c).course

pub returns-clause-unasked : goal.returns-clause-unasked
returns-clause-unasked g c = λ named.
    unasked (Behind (λ z. (goal.Chooser-dyn g z).chooses z.1)) (λ z. (goal.Chooser-dyn g z).names z.1) (initial c.args.plan.now c.args.policy) (returns-clause-execution g c).course.events
    c.args.chooser.now (c.args.chooser.now.0, c.take_all.new.chooser) named (returns-clause-execution g c).choices

pub returns-in_err-take_all-clause-unasked : goal.returns-in_err-take_all-clause-unasked
returns-in_err-take_all-clause-unasked g c = λ named.
    cut-unasked (Behind (λ z. (goal.Chooser-dyn g z).chooses z.1)) (λ z. (goal.Chooser-dyn g z).names z.1)
    ((goal.Chooser-dyn g c.args.chooser.now).allows c.args.chooser.now.1) (g.S.Service.offers c.args.service.now) g.S.Service.performs (plan_records c.args.plan.now)
    (initial c.args.plan.now c.in_ok-scheduler.scheduler.policy) c.args.service.now c.take_all.new.service
    c.args.chooser.now (c.args.chooser.now.0, c.take_all.new.chooser) c.in_err-take_all.field-0.0 named c.in_err-take_all.ensures.cut_short

pub returns-in_err-take_all-clause-broken_off : goal.returns-in_err-take_all-clause-broken_off
returns-in_err-take_all-clause-broken_off g c =
    let same : c.in_ok-scheduler.scheduler.policy ≡ c.args.policy = ap (λ (s : State). s.policy) c.in_ok-scheduler.ensures.first in
    let Is = λ (policy : Policy). IsBrokenOff ((goal.Chooser-dyn g c.args.chooser.now).allows c.args.chooser.now.1) (g.S.Service.offers c.args.service.now) g.S.Service.performs
    (Behind (λ z. (goal.Chooser-dyn g z).chooses z.1)) (λ z. (goal.Chooser-dyn g z).names z.1) (plan_records c.args.plan.now)
    (initial c.args.plan.now policy) c.args.service.now c.take_all.new.service c.args.chooser.now (c.args.chooser.now.0, c.take_all.new.chooser) in
    same_error c.from_residual-in_err-take_all.result (Is c.args.policy) c.in_err-take_all.field-0.0 c.from_residual-in_err-take_all.ensures.1 (subst (λ policy. Is policy c.in_err-take_all.field-0.0) same (inr c.in_err-take_all.ensures.cut_short))

pub returns-in_err-scheduler-clause-unasked : goal.returns-in_err-scheduler-clause-unasked
returns-in_err-scheduler-clause-unasked g c = λ named. refl

pub returns-in_err-scheduler-clause-broken_off : goal.returns-in_err-scheduler-clause-broken_off
returns-in_err-scheduler-clause-broken_off g c =
    let Is = IsBrokenOff ((goal.Chooser-dyn g c.args.chooser.now).allows c.args.chooser.now.1) (g.S.Service.offers c.args.service.now) g.S.Service.performs
    (Behind (λ z. (goal.Chooser-dyn g z).chooses z.1)) (λ z. (goal.Chooser-dyn g z).names z.1) (plan_records c.args.plan.now)
    (initial c.args.plan.now c.args.policy) c.args.service.now c.args.service.now c.args.chooser.now c.args.chooser.now in
    same_error c.from_residual.result Is OutOfMemory c.from_residual.ensures.1 (inl (refl, refl, refl))

pub returns-in_err-take_all-clause-fault : goal.returns-in_err-take_all-clause-fault
returns-in_err-take_all-clause-fault g c =
    let allows = (goal.Chooser-dyn g c.args.chooser.now).allows c.args.chooser.now.1 in
    let offers = g.S.Service.offers c.args.service.now in
    let same : c.in_ok-scheduler.scheduler.policy ≡ c.args.policy = ap (λ (s : State). s.policy) c.in_ok-scheduler.ensures.first in
    let Is = λ (policy : Policy). IsCausedBy offers (IsReportEnabled allows offers (initial c.args.plan.now policy)) in
    same_error c.from_residual-in_err-take_all.result (Is c.args.policy) c.in_err-take_all.field-0.0 c.from_residual-in_err-take_all.ensures.1 (subst (λ policy. Is policy c.in_err-take_all.field-0.0) same c.in_err-take_all.ensures.fault)
