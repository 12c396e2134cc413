use Rattle.std.proofs.Common.{◌≡◌, ◌∙◌, sym, ap, subst, arith, rules, length, map}
use Rattle.std.proofs.lemmas.List.{nil_from_length}
use Rattle.std.specs.Vec.Iter.{into_iter_items}
use Rattle.odb_check.specs.Plans.{plan_records}
use Rattle.odb_doc.specs.recorded.EventLists.{entries}
use Rattle.odb_doc.specs.recorded.Events.{event_value}
use Rattle.odb_sched.specs.run.Resolving.{IsKnown, RefusesNamed}
use Rattle.odb_sched.proofs.ResolveLemmas.{resolved_none, resolved_more, resolved_all, resolved_as, unknown_next}
use Rattle.odb_sched.proofs.event.resolve_with.Goals as goal

pub loop-event-init : goal.loop-event-init
loop-event-init c =
    let items : map event_value (into_iter_items c.into_iter-event-iterator.result) ≡ entries c.args.events = ap (map event_value) c.into_iter-event-iterator.ensures.into_iter_gives.0 ∙ c.into_vec-event-items.ensures.value in
    let len = c.into_iter-event-iterator.ensures.into_iter_gives.1 in
    record {
      left = len ∙ c.into_vec-event-items.result.ok.0 ∙ ap length (sym c.into_iter-event-iterator.ensures.into_iter_gives.0);
      resolved = rw (items, c.in_ok-found.ensures.items) (resolved_none _ _);
    }

pub loop-event-preserved : goal.loop-event-preserved
loop-event-preserved c =
    let batch = plan_records c.args.plan.now in
    let so_far = resolved_as batch (entries c.args.events) _ _ c.loop-event.found.items (ap (map event_value) c.in-Some.ensures.steps.0) c.loop-event.invariant.resolved in
    record {
      left = let fewer = c.in-Some.ensures.steps.1 in let short = ap length c.in-Some.ensures.steps.0 in let was = c.loop-event.invariant.left in omega arith;
      resolved = rw c.in_ok-push.ensures.items
          (resolved_more batch (entries c.args.events) (event_value c.in-Some.event) (map event_value (into_iter_items c.next.new.self)) c.loop-event.found.items _ so_far c.in_ok-next.ensures.resolved c.in_ok-next.ensures.within);
    }

pub returns-in_err-next-clause-least : goal.returns-in_err-next-clause-least
returns-in_err-next-clause-least c =
    let batch = plan_records c.args.plan.now in
    let so_far = resolved_as batch (entries c.args.events) _ _ c.loop-event.found.items (ap (map event_value) c.in-Some.ensures.steps.0) c.loop-event.invariant.resolved in
    let place : c.len-in-loop-event.result ≡ length c.loop-event.found.items = search rules in
    let unknown : ¬ IsKnown batch (event_value c.in-Some.event) = search rules in
    let refused : RefusesNamed c.in_err-next.field-0.0 batch (entries c.args.events) = subst (λ fault. RefusesNamed fault batch (entries c.args.events)) (sym c.in_err-next.ensures.place)
    (unknown_next batch (entries c.args.events) (event_value c.in-Some.event) (map event_value (into_iter_items c.next.new.self)) c.loop-event.found.items c.len-in-loop-event.result so_far place unknown) in
    search (rules, refused)

pub returns-clause-known : goal.returns-clause-known
returns-clause-known c =
    let so_far = resolved_as (plan_records c.args.plan.now) (entries c.args.events) _ _ c.loop-event.found.items (ap (map event_value) (nil_from_length _ (sym c.loop-event.invariant.left ∙ c.in-None.ensures.steps.0))) c.loop-event.invariant.resolved in
    (resolved_all (plan_records c.args.plan.now) (entries c.args.events) c.loop-event.found.items so_far).0
