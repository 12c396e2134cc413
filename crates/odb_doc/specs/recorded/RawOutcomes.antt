-- What is moved out of an element of `outcomes`, or out of a report of `events`, while it is read: for private clauses,
-- nothing to believe.
use Rattle.std.specs.Prelude.{◌≡◌, ◌||◌, ℕ, Bool, List, Some, None, option_map, codes, bytes_eq, string_bytes, if◌then◌else◌}
use Rattle.std.specs.List.{list_any}
use Rattle.serde_json.specs.Data.{Data}
use Rattle.serde_json.specs.Find.{as_number, as_str, get}
use Rattle.serde_json.specs.View.{view, number_view}
use Rattle.odb_doc.specs.declared.broken.Broken.{Broken}
use Rattle.odb_doc.specs.declared.broken.Broken.TheVariants as broken
use Rattle.odb_doc.specs.declared.member.Object.{Object}
use Rattle.odb_doc.specs.declared.member.Object.TheVariants as objects
use Rattle.odb_doc.specs.declared.recorded.outcome.Parts.{Parts}
use Rattle.odb_doc.specs.declared.recorded.outcome.RawOutcome.{RawOutcome}
use Rattle.odb_doc.specs.declared.recorded.event_fault.EventRule.{EventRule}
use Rattle.odb_doc.specs.declared.recorded.event_fault.EventFault.{EventFault}
use Rattle.odb_doc.specs.declared.recorded.event_fault.EventFault.TheVariants as event_faults
use Rattle.odb_doc.specs.declared.recorded.outcome_fault.OutcomeRule.{OutcomeRule}
use Rattle.odb_doc.specs.declared.recorded.outcome_fault.OutcomeFault.{OutcomeFault}
use Rattle.odb_doc.specs.declared.recorded.outcome_fault.OutcomeFault.TheVariants as faults
use Rattle.odb_doc.specs.batch.Bodies.{body_of}
use Rattle.odb_doc.specs.Headers.{HasHeaders, headers_in}
use Rattle.odb_doc.specs.recorded.EventFaults as event_table
use Rattle.odb_doc.specs.recorded.LeastEventFault.{BreaksEvent}
use Rattle.odb_doc.specs.recorded.LeastOutcomeFault.{BreaksOutcome}
use Rattle.odb_doc.specs.LeastRules.{IsLeast}
use Rattle.odb_doc.specs.Members.{is_other, members_of, names_in, text_at}
use Rattle.odb_doc.specs.recorded.OutcomeFaults.{rule_number}
use Rattle.odb_doc.specs.recorded.Outcomes.{HasOutcome, id_of, status_of}

-- the values at the four members, as far as they have the right types, and whether there are other members
pub record AreFoundIn (kind : Object) (name : List ℕ) (d : Data) (parts : Parts) : Type 0 where
  pub other : parts.has_other ≡ list_any (is_other (members_of kind)) (names_in d)
  pub id : option_map string_bytes parts.id ≡ text_at name d
  pub status : option_map number_view parts.status ≡ status_of d
  pub headers : option_map view parts.headers ≡ get (codes "headers") d
  pub body : option_map view parts.body ≡ get (codes "body") d

-- a member of this name and value, after those that were found
pub record PutsPart (kind : Object) (id_name name : List ℕ) (d : Data) (old new : Parts) : Type 0 where
  pub other : new.has_other ≡ (old.has_other || is_other (members_of kind) name)
  pub id : option_map string_bytes new.id ≡ (if bytes_eq id_name name then as_str d else option_map string_bytes old.id)
  pub status : option_map number_view new.status ≡ (if bytes_eq (codes "status") name then as_number d else option_map number_view old.status)
  pub headers : option_map view new.headers ≡ (if bytes_eq (codes "headers") name then Some d else option_map view old.headers)
  pub body : option_map view new.body ≡ (if bytes_eq (codes "body") name then Some d else option_map view old.body)

-- the element has the shape of an outcome with a string at this member, and these values
pub record HasRawOutcome (kind : Object) (name : List ℕ) (d : Data) (raw : RawOutcome) : Type 0 where
  pub object : HasOutcome kind name d
  pub id : text_at name d ≡ Some (string_bytes raw.id)
  pub status : status_of d ≡ Some (number_view raw.status)
  pub headers : HasHeaders d (headers_in raw.headers)
  pub body : body_of d ≡ option_map view raw.body

-- the element has the shape of an outcome, and these values
abbrev pub IsRawOutcomeOf : Data → RawOutcome → Type 0
IsRawOutcomeOf d raw = HasRawOutcome objects.Outcome (codes "id") d raw

-- the rule is broken by an element after others with these ids, and none with a smaller number is
abbrev pub IsLeastBroken : List (List ℕ) → Data → OutcomeRule → Type 0
IsLeastBroken before d rule = IsLeast rule_number (λ other. BreaksOutcome other before d) rule

-- the fault of an outcome
abbrev pub outcome_fault : Broken (ℕ × OutcomeRule) → OutcomeFault
outcome_fault (broken.Rule place) = faults.Outcome place.0 place.1
outcome_fault broken.OutOfMemory = faults.OutOfMemory

-- the element is not a start, has the shape of a report, and these values
pub record IsReportOf (d : Data) (raw : RawOutcome) : Type 0 where
  pub reports : get (codes "start") d ≡ None
  pub says : HasRawOutcome objects.Report (codes "report") d raw

-- the rule is broken by the element, and none with a smaller number is
abbrev pub IsLeastBrokenEvent : Data → EventRule → Type 0
IsLeastBrokenEvent d rule = IsLeast event_table.rule_number (λ other. BreaksEvent other d) rule

-- the fault of an event
abbrev pub event_fault : Broken (ℕ × EventRule) → EventFault
event_fault (broken.Rule place) = event_faults.Event place.0 place.1
event_fault broken.OutOfMemory = event_faults.OutOfMemory

-- whether the id of the element, if it has one, is among these
abbrev pub Repeats : Bool → List (List ℕ) → Data → Type 0
Repeats repeats before d = (id : List ℕ) → id_of d ≡ Some id → list_any (bytes_eq id) before ≡ repeats
