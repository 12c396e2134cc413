-- Why a report is refused by its headers or its body: by the fault that a document of events has, if it has this report alone.
use Rattle.std.specs.Prelude.{◌≡◌, ◌<◌, ℕ, List, Some, length}
use Rattle.serde_json.specs.Data.{Data}
use Rattle.odb_doc.specs.Documents.{IsDocument, most_bytes}
use Rattle.odb_doc.specs.Faults.{document_label}
use Rattle.odb_doc.specs.Headers.{IsHeaders}
use Rattle.odb_doc.specs.Refusals.{Printed, fault_of}
use Rattle.odb_doc.specs.declared.fault.DocumentRule.TheVariants.{TooLong, NotJson}
use Rattle.odb_doc.specs.declared.fault.Place.TheVariants as places
use Rattle.odb_doc.specs.declared.recorded.event_fault.EventRule.TheVariants.{BadEvents}
use Rattle.odb_doc.specs.recorded.EventFaults.{rule_label}
use Rattle.odb_reply.specs.BodyTexts.{IsNoBody}
use Rattle.odb_engine.specs.Cascade.{RefusesBytes}

-- F64 of the one event
abbrev pub IsBadEvent : Printed → Type 0
IsBadEvent refusal = refusal ≡ fault_of (rule_label BadEvents) (places.Event 0)

-- the headers are refused: they are not JSON, or no object of strings whose names differ in lower case
pub data RefusesHeaders (headers : List ℕ) (refusal : Printed) : Type 0 where
  OfBytes : RefusesBytes places.Events headers refusal → RefusesHeaders headers refusal
  OfValue : (value : Data) → IsDocument headers value → ¬ IsHeaders (Some value) → IsBadEvent refusal → RefusesHeaders headers refusal

-- the body is refused: it is too long, or not JSON that nests at most 124 deep
pub data RefusesBody (body : List ℕ) (refusal : Printed) : Type 0 where
  OfLength : most_bytes < length body → refusal ≡ fault_of (document_label TooLong) places.Events → RefusesBody body refusal
  OfText : IsNoBody body → refusal ≡ fault_of (document_label NotJson) places.Events → RefusesBody body refusal
