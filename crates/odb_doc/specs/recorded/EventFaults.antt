-- The rules of an event and the faults of a document of events: their numbers and names, and what is printed of them.
use Rattle.std.specs.Prelude.{ℕ, List, Option, Some, None, codes}
use Rattle.odb_doc.specs.declared.fault.Place.TheVariants as places
use Rattle.odb_doc.specs.declared.recorded.event_fault.EventRule.{EventRule}
use Rattle.odb_doc.specs.declared.recorded.event_fault.EventRule.TheVariants.{NotWhole, BadEvents}
use Rattle.odb_doc.specs.declared.recorded.event_fault.EventFault.{EventFault}
use Rattle.odb_doc.specs.declared.recorded.event_fault.EventFault.TheVariants as faults
use Rattle.odb_doc.specs.Refusals.{Printed, fault_of}

-- the number in the code, and the name
abbrev pub rule_label : EventRule → ℕ × List ℕ
rule_label NotWhole = (63, codes "NotWhole")
rule_label BadEvents = (64, codes "BadEvents")

abbrev pub rule_number : EventRule → ℕ
rule_number rule = (rule_label rule).0

-- the document as a whole and an event of a bad shape have one code
abbrev pub event_row : EventFault → Option Printed
event_row faults.Document = Some (fault_of (rule_label BadEvents) places.Events)
event_row (faults.Event at rule) = Some (fault_of (rule_label rule) (places.Event at))
event_row faults.OutOfMemory = None
