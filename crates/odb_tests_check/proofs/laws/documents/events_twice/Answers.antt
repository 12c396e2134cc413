use Rattle.std.proofs.Common.{IsSome}
use Rattle.odb_doc.specs.recorded.EventFaults.{event_row}
use Rattle.odb_doc.specs.recorded.EventLists.{entries}
use Rattle.odb_doc.specs.recorded.LeastEventFault.{IsEventsDocument, RefusesEvents}
use Rattle.odb_doc.specs.recorded.Events.{AreEventsOf}
use Rattle.odb_tests_check.proofs.DocumentLemmas.{one_reading_of_bytes}
use Rattle.odb_tests_check.proofs.laws.documents.events_twice.Goals as goal

pub returns : goal.returns
returns c = one_reading_of_bytes entries IsEventsDocument AreEventsOf (λ f. IsSome (event_row f)) RefusesEvents c.one_history.ensures.events c.one_history.ensures.one c.one_history.ensures.none c.args.bytes.now c.events_of.result c.events_of-2.result c.events_of.ensures c.events_of-2.ensures
