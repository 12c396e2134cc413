-- A run after recorded events.
use Rattle.std.proofs.Common.{◌∙◌, IfErr, inl, inr, ap}
use Rattle.odb_doc.specs.declared.fault.Place.TheVariants.{Events}
use Rattle.odb_doc.specs.recorded.EventLists.{entries}
use Rattle.odb_check.specs.Plans.{plan_records}
use Rattle.odb_sched.specs.run.State.{State, first_state, without_requests}
use Rattle.odb_sched.proofs.RunLemmas.{plan_graph-after_all}
use Rattle.odb_engine.specs.Cascade.{RefusesBytes}
use Rattle.odb_engine.specs.Halts.{Halted}
use Rattle.odb_live.specs.Live.{IsLeastAfter}
use Rattle.odb_live.specs.Live.IsLeastAfter.{OfDocument}
use Rattle.odb_engine.specs.Runs.{AreEventsIn}
use Rattle.odb_engine.proofs.EngineLemmas.{at-exit, exit-error, halted-by, Halted-weaker}
use Rattle.odb_live.proofs.LiveLemmas.{unknown-after, barred-after}
use Rattle.odb_live.proofs.run.run_after.Goals as goal

pub returns-in_err-value-clause-least : goal.returns-in_err-value-clause-least
returns-in_err-value-clause-least c =
    let least = IsLeastAfter c.args.policy (plan_records c.args.plan.now) c.args.events.now in
    exit-error (λ r. IfErr r (Halted least)) _ _ c.from_residual.ensures.1
    (Halted-weaker (RefusesBytes Events c.args.events.now) least (λ refusal is. OfDocument (inl is)) _ c.in_err-value.ensures.fault)

pub returns-in_err-named-clause-least : goal.returns-in_err-named-clause-least
returns-in_err-named-clause-least c =
    let least = IsLeastAfter c.args.policy (plan_records c.args.plan.now) c.args.events.now in
    let fault = c.in_err-named.field-0.0 in
    at-exit (λ r. IfErr r (Halted least)) _ _ c.from_residual-in_err-named.ensures.1
    (halted-by least _ (λ refusal row. OfDocument (inr (record { value = _; document = c.in_ok-value.ensures.value; holds = record { fault = fault; refuses = c.in_err-named.ensures.least; is = row } }))))

pub returns-in_err-resolved-clause-least : goal.returns-in_err-resolved-clause-least
returns-in_err-resolved-clause-least c =
    let policy = c.args.policy in
    let batch = plan_records c.args.plan.now in
    let bytes = c.args.events.now in
    let named = entries c.in_ok-named.named in
    let are : AreEventsIn bytes named = record { value = _; document = c.in_ok-value.ensures.value; holds = (c.in_ok-named.ensures.good, c.in_ok-named.ensures.events) } in
    let least = IsLeastAfter policy batch bytes in
    at-exit (λ r. IfErr r (Halted least)) _ _ c.from_residual-in_err-resolved.ensures.1
    (halted-by least _ (unknown-after policy batch bytes named are c.in_err-resolved.field-0.0 c.in_err-resolved.ensures.least))

pub returns-in_err-scheduler-clause-least : goal.returns-in_err-scheduler-clause-least
returns-in_err-scheduler-clause-least c =
    let policy = c.args.policy in
    let batch = plan_records c.args.plan.now in
    let bytes = c.args.events.now in
    let named = entries c.in_ok-named.named in
    let are : AreEventsIn bytes named = record { value = _; document = c.in_ok-value.ensures.value; holds = (c.in_ok-named.ensures.good, c.in_ok-named.ensures.events) } in
    let least = IsLeastAfter policy batch bytes in
    at-exit (λ r. IfErr r (Halted least)) _ _ c.from_residual-in_err-scheduler.ensures.1
    (halted-by least _ (barred-after policy batch bytes named are c.in_ok-resolved.resolved.items c.in_err-scheduler.field-0.0 c.in_ok-resolved.ensures.events c.in_err-scheduler.ensures.refused))

pub returns-clause-plan_graph : goal.returns-clause-plan_graph
returns-clause-plan_graph c =
    ap (λ (s : State). s.plan_graph) (c.into_owned.ensures.state ∙ ap (λ (s : State). without_requests s) c.in_ok-scheduler.ensures.state) ∙ plan_graph-after_all (first_state (plan_records c.args.plan.now) c.args.policy) c.in_ok-resolved.resolved.items
