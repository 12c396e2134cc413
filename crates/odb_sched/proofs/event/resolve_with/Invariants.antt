use Rattle.std.proofs.Common.{◌≡◌, length, map}
use Rattle.std.specs.Vec.Iter.{into_iter_items, into_iter_len}
use Rattle.odb_check.specs.Plans.{plan_records}
use Rattle.odb_doc.specs.recorded.EventLists.{entries}
use Rattle.odb_doc.specs.recorded.Events.{event_value}
use Rattle.odb_sched.proofs.ResolveLemmas.{HasResolved}
use Rattle.odb_sched.proofs.event.resolve_with.Given as goal

-- the events so far have their positions
abbrev pub invariant-loop-event : goal.invariant-loop-event
invariant-loop-event l = record {
  left : into_iter_len l.event-iterator ≡ length (into_iter_items l.event-iterator);
  resolved : HasResolved (plan_records l.plan) (entries l.fn.events) (map event_value (into_iter_items l.event-iterator)) l.found.items;
}
