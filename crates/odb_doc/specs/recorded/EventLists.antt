-- Recorded events as the list of their values.
use Rattle.std.specs.Prelude.{List, map}
use Rattle.odb_doc.specs.declared.recorded.events.Events.{Events}
use Rattle.odb_doc.specs.recorded.Events.{EventValue, event_value}

-- the events, in order
abbrev pub entries : Events → List EventValue
entries events = map event_value events.entries.items
