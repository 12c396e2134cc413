use Rattle.std.proofs.Common.{◌≡◌, ◌++◌, map, All}
use Rattle.std.specs.Slice.Iter.{iter_mut_rest}
use Rattle.serde_json.specs.View.{view}
use Rattle.odb_doc.specs.recorded.Events.{ReadsAs, IsWellFormedEvent, event_value}
use Rattle.odb_doc.proofs.EventLemmas.{Breaks}
use Rattle.odb_doc.proofs.LeastLemmas.{AreRead}
use Rattle.odb_doc.proofs.recorded.events.events_from.Given as goal

abbrev pub invariant-loop-element : goal.invariant-loop-element
invariant-loop-element l = record {
  split : l.fn.elements.items ≡ map (λ y. y.now) l.yielded ++ iter_mut_rest l.element-iterator;
  read : AreRead Breaks ReadsAs (map view (map (λ y. y.now) l.yielded)) (map event_value l.entries.items);
  fit : All IsWellFormedEvent (map event_value l.entries.items);
}
