-- What the events make of the first state holds of the first state of the plan.
use Rattle.std.proofs.Common.{◌≡◌, ◌∙◌, Err, ap, subst, rules}
use Rattle.odb_sched.specs.run.State.{initial}
use Rattle.odb_sched.specs.run.Runs.{after_all, IsRunFrom, Refuses}
use Rattle.odb_sched.proofs.TakenLemmas.{sized}
use Rattle.odb_sched.proofs.event.run.Goals as goal

pub take_all-requires : goal.take_all-requires
take_all-requires c = sized c.in_ok-scheduler.scheduler _ c.args.events.items c.in_ok-scheduler.ensures.size c.requires

pub returns-in_err-take_all-clause-refused : goal.returns-in_err-take_all-clause-refused
returns-in_err-take_all-clause-refused c =
    let refused : Refuses (initial c.args.plan.now c.args.policy) c.args.events.items c.in_err-take_all.field-0.0 =
    subst (λ first. Refuses first c.args.events.items c.in_err-take_all.field-0.0) c.in_ok-scheduler.ensures.state c.in_err-take_all.ensures.refused in
    let same : c.from_residual-in_err-take_all.result ≡ Err c.in_err-take_all.field-0.0 = search rules in
    rw same refused

pub returns-clause-run : goal.returns-clause-run
returns-clause-run c = subst (λ first. IsRunFrom first c.args.events.items) c.in_ok-scheduler.ensures.state c.in_ok-take_all.ensures.run

pub returns-clause-state : goal.returns-clause-state
returns-clause-state c = c.in_ok-take_all.ensures.state ∙ ap (λ first. after_all first c.args.events.items) c.in_ok-scheduler.ensures.state

pub returns-clause-dependencies_first : goal.returns-clause-dependencies_first
returns-clause-dependencies_first c = c.every_run.ensures.dependencies_first c.args.policy c.args.events.items (returns-clause-run c)

pub returns-clause-few_events : goal.returns-clause-few_events
returns-clause-few_events c = c.every_run.ensures.few_events c.args.policy c.args.events.items (returns-clause-run c)
