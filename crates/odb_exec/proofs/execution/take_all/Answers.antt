-- An execution that continues is a course so far, and has room for the remaining steps.
use Rattle.std.proofs.Common.{refl, ◌≡◌, ◌≤◌, ◌+◌, ◌∙◌, ap, subst, arith, rules, [], ◌∷◌, ◌++◌, length, is_ok, if◌then◌else◌}
use Rattle.std.proofs.lemmas.List.{length-append}
use Rattle.std.specs.Vec.{vec_capacity, vec_len}
use Rattle.odb_sched.specs.run.State.{State, initial}
use Rattle.odb_check.specs.Plans.{plan_records}
use Rattle.odb_sched.specs.run.Steps.{is_finished}
use Rattle.odb_exec.specs.Advances.{IsTakenBy}
use Rattle.odb_sched.proofs.RunLemmas.{reached_initial}
use Rattle.odb_exec.proofs.CourseLemmas.{events_left, so_far-first, room-first, one_more, fewer-taken, caused-first, asks-push, cut_short_at, few-steps, next-within, same-policy}
use Rattle.odb_exec.specs.Calls.{Behind}
use Rattle.odb_sched.specs.run.Runs.{after_all}
use Rattle.odb_exec.proofs.PickLemmas.{picks-push, picked-event, no_step}
use Rattle.odb_exec.proofs.execution.take_all.Goals as goal

pub loop-step-init : goal.loop-step-init
unfolding so_far-first
loop-step-init g c =
    record {
      far = so_far-first ((goal.Chooser-dyn g c.args.chooser.now).allows c.args.chooser.now.1) (g.S.Service.offers c.args.service.now)
          (initial c.args.plan.now c.args.scheduler.now.policy) c.args.scheduler.now c.args.steps.now.items c.requires.first c.requires.unlisted;
      calls = refl;
      choices = refl;
      room = room-first c.args.plan.now c.args.scheduler.now.policy c.args.scheduler.now c.args.steps.now.items (vec_capacity c.args.steps.now)
          c.requires.first c.requires.unlisted c.requires.room;
    }

pub take-requires-clause-request : goal.take-requires-clause-request
take-requires-clause-request g c =
    next-within c.args.plan.now c.args.scheduler.now.policy
    ((goal.Chooser-dyn g c.args.chooser.now).allows c.args.chooser.now.1) ((goal.Chooser-dyn g c.loop-step.chooser.now).allows c.loop-step.chooser.now.1)
    (g.S.Service.offers c.args.service.now) (g.S.Service.offers c.loop-step.service)
    c.loop-step.scheduler c.loop-step.steps.items c.loop-step.invariant.far c.in-Some.step c.in-Some.ensures.next

pub returns-in_err-take-clause-fault : goal.returns-in_err-take-clause-fault
returns-in_err-take-clause-fault g c =
    let cause = caused-first
    ((goal.Chooser-dyn g c.args.chooser.now).allows c.args.chooser.now.1) ((goal.Chooser-dyn g c.loop-step.chooser.now).allows c.loop-step.chooser.now.1)
    ((goal.Chooser-dyn g c.loop-step.chooser.now).allows c.loop-step.chooser.now.1)
    (g.S.Service.offers c.args.service.now) (g.S.Service.offers c.loop-step.service) (g.S.Service.offers c.loop-step.service)
    (initial c.args.plan.now c.args.scheduler.now.policy) c.loop-step.scheduler c.loop-step.scheduler c.loop-step.steps.items c.in-Some.step
    c.loop-step.invariant.far c.in-Some.ensures.next c.in_err-take.field-0.0 c.in_err-take.ensures.fault in
    search (rules, cause)

pub unwrap-requires : goal.unwrap-requires
unwrap-requires g c =
    let fewer : events_left c.take.new.scheduler + 1 ≡ events_left c.loop-step.scheduler =
    fewer-taken c.args.plan.now c.args.scheduler.now.policy _ _ _ _ _ _ c.loop-step.invariant.far _ _ _ _ _ _ _ c.every_plan.ensures.order c.next_step.ensures.same c.in-Some.ensures.next c.in_ok-take.ensures.taken in
    let room : length c.loop-step.steps.items + events_left c.loop-step.scheduler ≤ vec_capacity c.loop-step.steps = c.loop-step.invariant.room in
    let len : vec_len c.loop-step.steps ≡ length c.loop-step.steps.items = c.loop-step.steps.ok.0 in
    c.push.ensures.succeeds (omega arith)

pub loop-step-smaller : goal.loop-step-smaller
loop-step-smaller g c =
    let fewer : events_left c.take.new.scheduler + 1 ≡ events_left c.loop-step.scheduler =
    fewer-taken c.args.plan.now c.args.scheduler.now.policy _ _ _ _ _ _ c.loop-step.invariant.far _ _ _ _ _ _ _ c.every_plan.ensures.order c.next_step.ensures.same c.in-Some.ensures.next c.in_ok-take.ensures.taken in
    omega arith

pub loop-step-preserved : goal.loop-step-preserved
unfolding one_more
loop-step-preserved g c =
    let plan = c.args.plan.now in
    let allows = (goal.Chooser-dyn g c.args.chooser.now).allows c.args.chooser.now.1 in
    let allows_now = (goal.Chooser-dyn g c.loop-step.chooser.now).allows c.loop-step.chooser.now.1 in
    let offers = g.S.Service.offers c.args.service.now in
    let offers_now = g.S.Service.offers c.loop-step.service in
    let taken_by = subst (λ state. IsTakenBy g.S.Service.performs (plan_records plan) offers_now state c.take.new.scheduler c.loop-step.service c.take.new.service c.in-Some.step) c.next_step.ensures.same c.in_ok-take.ensures.taken in
    let taken = taken_by.taken in
    let fewer : events_left c.take.new.scheduler + 1 ≡ events_left c.loop-step.scheduler =
    fewer-taken c.args.plan.now c.args.scheduler.now.policy _ _ _ _ _ _ c.loop-step.invariant.far _ _ _ _ _ _ _ c.every_plan.ensures.order c.next_step.ensures.same c.in-Some.ensures.next c.in_ok-take.ensures.taken in
    let room : length c.loop-step.steps.items + events_left c.loop-step.scheduler ≤ vec_capacity c.loop-step.steps = c.loop-step.invariant.room in
    let allows_later = (goal.Chooser-dyn g (c.loop-step.chooser.now.0, c.next_step.new.chooser)).allows c.next_step.new.chooser in
    let offers_later = g.S.Service.offers c.take.new.service in
    let first = initial plan c.args.scheduler.now.policy in
    let items : c.push.new.self.items ≡ c.loop-step.steps.items ++ c.in-Some.step ∷ [] =
    subst (λ returned. c.push.new.self.items ≡ (if is_ok returned then c.loop-step.steps.items ++ c.in-Some.step ∷ [] else c.loop-step.steps.items)) c.unwrap.ensures c.push.ensures.items in
    let longer : length c.push.new.self.items ≡ length c.loop-step.steps.items + 1 = ap length items ∙ length-append c.loop-step.steps.items (c.in-Some.step ∷ []) in
    let more : vec_capacity c.loop-step.steps ≤ vec_capacity c.push.new.self = c.push.ensures.capacity in
    record {
      far = one_more allows allows_now allows_later offers offers_now offers_later first c.loop-step.scheduler c.take.new.scheduler c.loop-step.steps.items c.in-Some.step
          c.push.new.self.items items (reached_initial plan c.args.scheduler.now.policy c.every_plan.ensures.order)
          c.loop-step.invariant.far c.in-Some.ensures.next taken c.in-Some.ensures.narrows c.in_ok-take.ensures.narrows;
      calls = asks-push g.S.Service.performs (plan_records plan) c.loop-step.invariant.far.events taken.event c.args.service.now c.loop-step.service c.take.new.service c.loop-step.invariant.calls taken_by.asked;
      choices = picks-push (Behind (λ z. (goal.Chooser-dyn g z).chooses z.1)) (λ z. (goal.Chooser-dyn g z).names z.1) first c.loop-step.invariant.far.events taken.event
          c.args.chooser.now c.loop-step.chooser.now (c.loop-step.chooser.now.0, c.next_step.new.chooser) c.loop-step.invariant.choices
          (picked-event (Behind (λ z. (goal.Chooser-dyn g z).chooses z.1)) (λ z. (goal.Chooser-dyn g z).names z.1) c.loop-step.scheduler (after_all first c.loop-step.invariant.far.events) c.in-Some.step taken.event
          c.loop-step.chooser.now (c.loop-step.chooser.now.0, c.next_step.new.chooser) c.loop-step.invariant.far.state_is taken.step_is c.in-Some.ensures.picked);
      room = omega arith;
    }

pub returns-clause-execution : goal.returns-clause-execution
returns-clause-execution g c =
    let far = c.loop-step.invariant.far in
    record {
      course = record {
        events = far.events;
        course = far.course;
        steps_are = far.steps_are;
        last_is = c.next_step.ensures.same ∙ far.state_is;
        finished = ap is_finished c.next_step.ensures.same ∙ c.next_step.ensures.finished c.in_default.is;
      };
      dependencies_first = c.every_run.ensures.dependencies_first c.args.scheduler.now.policy far.events far.course.run;
      calls = c.loop-step.invariant.calls;
      choices = no_step (Behind (λ z. (goal.Chooser-dyn g z).chooses z.1)) (λ z. (goal.Chooser-dyn g z).names z.1) (initial c.args.plan.now c.args.scheduler.now.policy) far.events
          c.args.chooser.now c.loop-step.chooser.now (c.loop-step.chooser.now.0, c.next_step.new.chooser) (c.next_step.ensures.unasked c.in_default.is) c.loop-step.invariant.choices;
    }

pub returns-in_err-take-clause-cut_short : goal.returns-in_err-take-clause-cut_short
returns-in_err-take-clause-cut_short g c =
    let far = c.loop-step.invariant.far in
    cut_short_at g.S.Service.performs (Behind (λ z. (goal.Chooser-dyn g z).chooses z.1)) (λ z. (goal.Chooser-dyn g z).names z.1) (plan_records c.args.plan.now)
    ((goal.Chooser-dyn g c.args.chooser.now).allows c.args.chooser.now.1) ((goal.Chooser-dyn g c.loop-step.chooser.now).allows c.loop-step.chooser.now.1)
    (g.S.Service.offers c.args.service.now) (g.S.Service.offers c.loop-step.service)
    (initial c.args.plan.now c.args.scheduler.now.policy) c.loop-step.scheduler c.loop-step.steps.items c.in-Some.step
    far c.in-Some.ensures.next c.loop-step.chooser.now (c.loop-step.chooser.now.0, c.next_step.new.chooser) c.in-Some.ensures.picked
    c.from_residual.result c.in_err-take.field-0.0 c.args.service.now c.loop-step.service c.take.new.service c.args.chooser.now c.from_residual.ensures.1
    (c.every_run.ensures.dependencies_first c.args.scheduler.now.policy far.events far.course.run)
    c.loop-step.invariant.calls c.loop-step.invariant.choices c.in_err-take.ensures.faulty

pub returns-clause-policy : goal.returns-clause-policy
returns-clause-policy g c =
    ap (λ (state : State). state.policy) c.next_step.ensures.same ∙ same-policy c.args.plan.now c.args.scheduler.now.policy
    ((goal.Chooser-dyn g c.args.chooser.now).allows c.args.chooser.now.1) ((goal.Chooser-dyn g c.loop-step.chooser.now).allows c.loop-step.chooser.now.1)
    (g.S.Service.offers c.args.service.now) (g.S.Service.offers c.loop-step.service)
    c.loop-step.scheduler c.loop-step.steps.items c.loop-step.invariant.far

pub returns-clause-few_steps : goal.returns-clause-few_steps
returns-clause-few_steps g c =
    few-steps c.args.plan.now c.args.scheduler.now.policy
    ((goal.Chooser-dyn g c.args.chooser.now).allows c.args.chooser.now.1) ((goal.Chooser-dyn g c.loop-step.chooser.now).allows c.loop-step.chooser.now.1)
    (g.S.Service.offers c.args.service.now) (g.S.Service.offers c.loop-step.service)
    c.loop-step.scheduler c.loop-step.steps.items c.loop-step.invariant.far
