-- Recorded events with the positions of their requests in place of the ids.
use Rattle.std.specs.Prelude.{◌≡◌, ℕ, List, Some, All, IsSomeAnd, slice_get, take}
use Rattle.odb_doc.specs.batch.Records.{Record}
use Rattle.odb_doc.specs.recorded.Events.{EventValue}
use Rattle.odb_doc.specs.recorded.Events as named
use Rattle.odb_check.specs.Positions.{id_at, IsId}
use Rattle.odb_sched.specs.declared.event.Event.{Event}
use Rattle.odb_sched.specs.declared.event.Event.TheVariants as at
use Rattle.odb_sched.specs.run.Refusals.{ResolveFault}
use Rattle.odb_doc.specs.declared.rule_fault.RuleFault.TheVariants as faults
use Rattle.odb_sched.specs.declared.event.ResolveRule.TheVariants.{UnknownEvent}

-- the id that an event names
abbrev pub named_id : EventValue → List ℕ
named_id (named.Start id) = id
named_id (named.Report id outcome) = id

-- the event at a position is the one with the id of that position
abbrev pub IsResolved : List Record → EventValue → Event → Type 0
IsResolved rs (named.Start id) (at.Start i) = id_at rs i ≡ Some id
IsResolved rs (named.Start id) (at.Report i outcome) = ⊥
IsResolved rs (named.Report id outcome) (at.Start i) = ⊥
IsResolved rs (named.Report id outcome) (at.Report i reported) = (id_at rs i ≡ Some id) × (reported ≡ outcome)

-- the event names a request of the batch
abbrev pub IsKnown : List Record → EventValue → Type 0
IsKnown rs event = IsId rs (named_id event)

-- the event at the place names no request of the batch, and each one before it does
pub record IsFirstUnknown (rs : List Record) (events : List EventValue) (place : ℕ) : Type 0 where
  pub unknown : IsSomeAnd (slice_get events place) (λ event. ¬ IsKnown rs event)
  pub before : All (IsKnown rs) (take place events)

-- the fault is the first. Out of memory says nothing.
abbrev pub RefusesNamed : ResolveFault → List Record → List EventValue → Type 0
RefusesNamed (faults.Broken place UnknownEvent) rs events = IsFirstUnknown rs events place
RefusesNamed faults.OutOfMemory rs events = Unit {0}
