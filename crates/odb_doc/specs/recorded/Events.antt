-- Recorded events: what the elements of `events` are, and what they mean. An event starts a request or reports how it
-- ended (OData JSON Format 4.01, section 19.5); the document of many is this product's own.
use Rattle.std.specs.Prelude.{◌≡◌, ◌≤◌, ℕ, List, Option, Some, None, IsSome, IsSomeAnd, IfSome, codes, string_bytes}
use Rattle.std.specs.List.{AllZip}
use Rattle.serde_json.specs.Data.{Data, Num, unsigned, negative, float}
use Rattle.serde_json.specs.Find.{get}
use Rattle.odb_doc.specs.declared.recorded.event.NamedEvent.{NamedEvent}
use Rattle.odb_doc.specs.declared.recorded.event.NamedEvent.TheVariants as named
use Rattle.odb_doc.specs.declared.recorded.outcome.Outcome.{Outcome}
use Rattle.odb_doc.specs.declared.member.Object.TheVariants as objects
use Rattle.odb_doc.specs.batch.Bodies.{body_of}
use Rattle.odb_doc.specs.Headers.{HasHeaders}
use Rattle.odb_doc.specs.recorded.OutcomeValues.{IsRecordable}
use Rattle.odb_doc.specs.Members.{elements_at, text_at, HasOther, IsListObject}
use Rattle.odb_doc.specs.recorded.Outcomes.{HasOutcome, status_of}
use Rattle.odb_doc.specs.WholeNumbers.{IsWhole}

-- the elements of `events`
abbrev pub elements : Data → List Data
elements d = elements_at (codes "events") d

-- an object whose one member is `events`, an array
abbrev pub IsEventsObject : Data → Type 0
IsEventsObject d = IsListObject objects.Events (codes "events") d

-- a status that a report may have: a whole number of 16 bits
abbrev pub IsReportedStatus : Num → Type 0
IsReportedStatus (unsigned n) = n ≤ 65535
IsReportedStatus (negative z) = ⊥
IsReportedStatus (float x) = ⊥

-- an object with a string `report` and a whole `status`, maybe `headers` and a `body`, and no other member
pub record IsReport (d : Data) : Type 0 where
  pub outcome : HasOutcome objects.Report (codes "report") d
  pub status : IsSomeAnd (status_of d) IsReportedStatus

-- an object whose one member is `start`, a string
pub record IsStart (d : Data) : Type 0 where
  pub one : ¬ HasOther objects.Start d
  pub id : IsSome (text_at (codes "start") d)

-- an element with a member `start` is a start, and any other a report
abbrev pub IsEventBy : Option Data → Data → Type 0
IsEventBy (Some start) d = IsStart d
IsEventBy None d = IsReport d

abbrev pub IsEvent : Data → Type 0
IsEvent d = IsEventBy (get (codes "start") d) d

-- an event by value: the id that it names, and the outcome that it reports
pub data EventValue : Type 0 where
  Start : List ℕ → EventValue
  Report : List ℕ → Outcome → EventValue

abbrev pub event_value : NamedEvent → EventValue
event_value (named.Start id) = Start (string_bytes id)
event_value (named.Report id outcome) = Report (string_bytes id) outcome

-- the element has no `start` and reads as this report
pub record ReadsAsReport (d : Data) (id : List ℕ) (outcome : Outcome) : Type 0 where
  pub reports : get (codes "start") d ≡ None
  pub names : text_at (codes "report") d ≡ Some id
  pub status : status_of d ≡ Some (unsigned outcome.status)
  pub headers : HasHeaders d outcome.headers
  pub body : body_of d ≡ outcome.body

-- the element reads as this event
abbrev pub ReadsAs : Data → EventValue → Type 0
ReadsAs d (Start id) = text_at (codes "start") d ≡ Some id
ReadsAs d (Report id outcome) = ReadsAsReport d id outcome

-- the elements of the document read as these events, one by one
abbrev pub AreEventsOf : Data → List EventValue → Type 0
AreEventsOf d events = AllZip ReadsAs (elements d) events

-- the body of what is reported
abbrev pub event_body : EventValue → Option Data
event_body (Start id) = None
event_body (Report id outcome) = outcome.body

-- what a document can record of an event
abbrev pub IsRecordableEvent : EventValue → Type 0
IsRecordableEvent (Start id) = Unit {0}
IsRecordableEvent (Report id outcome) = IsRecordable outcome

-- what holds of each event that was read: the body of a report holds whole numbers alone
pub record IsWellFormedEvent (event : EventValue) : Type 0 where
  pub whole : IfSome (event_body event) IsWhole
