-- Where each rule of an event is broken, and which fault of a document of events is reported: that of the whole, and else
-- the one at the least position.
use Rattle.std.specs.Prelude.{ℕ, List, IsNone, IsSomeAnd, codes}
use Rattle.serde_json.specs.Data.{Data}
use Rattle.serde_json.specs.Find.{get}
use Rattle.odb_doc.specs.declared.recorded.event_fault.EventRule.{EventRule}
use Rattle.odb_doc.specs.declared.recorded.event_fault.EventRule.TheVariants as rules
use Rattle.odb_doc.specs.declared.recorded.event_fault.EventFault.{EventFault}
use Rattle.odb_doc.specs.declared.recorded.event_fault.EventFault.TheVariants as faults
use Rattle.odb_doc.specs.batch.Bodies.{body_of}
use Rattle.odb_doc.specs.recorded.EventFaults.{rule_number}
use Rattle.odb_doc.specs.recorded.Events.{IsEvent, IsEventsObject, IsReport, elements}
use Rattle.odb_doc.specs.LeastRules.{BreaksAt, NoneBroken, IsFirst}
use Rattle.odb_doc.specs.WholeNumbers.{IsWhole}

-- a report whose body holds a number that is not whole
pub record HasBrokenNumber (d : Data) : Type 0 where
  pub reports : IsNone (get (codes "start") d)
  pub report : IsReport d
  pub body : IsSomeAnd (body_of d) (λ body. ¬ IsWhole body)

-- the rule is broken by the element
abbrev pub BreaksEvent : EventRule → Data → Type 0
BreaksEvent rules.NotWhole d = HasBrokenNumber d
BreaksEvent rules.BadEvents d = ¬ IsEvent d

-- the rule is broken by the event at the position
abbrev pub BreaksEventAt : List Data → EventRule → ℕ → Type 0
BreaksEventAt ds = BreaksAt (λ rule before d. BreaksEvent rule d) ds

-- the rule is broken at the position, none with a smaller number is, and none at all before
abbrev pub IsLeastEventRule : List Data → ℕ → EventRule → Type 0
IsLeastEventRule ds at rule = IsFirst rule_number (BreaksEventAt ds) at rule

-- no rule is broken anywhere
abbrev pub AreEvents : List Data → Type 0
AreEvents ds = NoneBroken (BreaksEventAt ds)

-- a document of events without a fault
abbrev pub IsEventsDocument : Data → Type 0
IsEventsDocument d = IsEventsObject d × AreEvents (elements d)

-- the fault is the least of the document. Out of memory may come in place of any, but see the clauses `memory`.
abbrev pub RefusesEvents : EventFault → Data → Type 0
RefusesEvents faults.Document d = ¬ IsEventsObject d
RefusesEvents (faults.Event at rule) d = IsEventsObject d × IsLeastEventRule (elements d) at rule
RefusesEvents faults.OutOfMemory d = Unit {0}
