-- What recorded events write of a batch: the response if every event may come and the run is finished.
use Rattle.std.specs.Prelude.{◌≡◌, ◌⊎◌, ℕ, List, Option, Some, All, true, false}
use Rattle.std.specs.List.{AllZip}
use Rattle.serde_json.specs.Data.{Data}
use Rattle.odb_doc.specs.declared.fault.Place.TheVariants as places
use Rattle.odb_doc.specs.recorded.EventFaults.{event_row}
use Rattle.odb_doc.specs.recorded.Events.{EventValue, AreEventsOf, IsRecordableEvent}
use Rattle.odb_doc.specs.recorded.LeastEventFault.{IsEventsDocument, RefusesEvents}
use Rattle.odb_doc.specs.batch.Records.{Record}
use Rattle.odb_sched.specs.declared.event.Event.{Event}
use Rattle.odb_sched.specs.declared.policy.Policy.{Policy}
use Rattle.odb_sched.specs.declared.refusal.RunRefusal.{RunRefusal}
use Rattle.odb_doc.specs.declared.rule_fault.RuleFault.TheVariants.{Broken}
use Rattle.odb_sched.specs.declared.event.ResolveRule.TheVariants.{UnknownEvent}
use Rattle.odb_sched.specs.run.Laws.{StartsAfterDependencies}
use Rattle.odb_sched.specs.run.Refusals.{run_row, resolve_row}
use Rattle.odb_sched.specs.run.Resolving.{IsResolved, IsFirstUnknown}
use Rattle.odb_sched.specs.run.Runs.{IsRunFrom, StopsAt, after_all}
use Rattle.odb_sched.specs.run.State.{State, first_state}
use Rattle.odb_sched.specs.run.Steps.{is_finished}
use Rattle.odb_reply.specs.OnePerId.{HasOnePerId}
use Rattle.odb_reply.specs.Responses.{response_value}
use Rattle.odb_reply.specs.declared.strictness.Strictness.TheVariants.{Requests}
use Rattle.odb_engine.specs.declared.ending.Ended.{Ended}
use Rattle.odb_engine.specs.declared.ending.Ended.TheVariants.{Done}
use Rattle.odb_doc.specs.Refusals.{Printed}
use Rattle.odb_engine.specs.Cascade.{WritesIn, Reports, HasFault, HasValue, IsLeastOf, OfDocument}
use Rattle.odb_engine.specs.Inputs.{BySecond}
use Rattle.odb_engine.specs.ReadAgain.{IsReadAgain}
use Rattle.odb_engine.specs.Rules.{rule_row}
use Rattle.odb_engine.specs.declared.rule.EngineRule.TheVariants.{Unfinished}
use Rattle.odb_engine.specs.ResponseLines.{response_line}

-- the least fault of the value of an events document
abbrev pub IsFaultOfEvents : Data → Printed → Type 0
IsFaultOfEvents = HasFault RefusesEvents event_row

-- the value is a document of these events
abbrev pub IsHistoryOf : Data → List EventValue → Type 0
IsHistoryOf value named = IsEventsDocument value × AreEventsOf value named

-- the same of the bytes of an events document
abbrev pub IsLeastOfEvents : List ℕ → Printed → Type 0
IsLeastOfEvents = IsLeastOf places.Events IsFaultOfEvents

abbrev pub AreEventsIn : List ℕ → List EventValue → Type 0
AreEventsIn bytes named = HasValue bytes (λ value. IsHistoryOf value named)

-- the events by the positions of the requests that they name
abbrev pub AreResolved : List Record → List EventValue → List Event → Type 0
AreResolved batch named events = AllZip (IsResolved batch) named events

-- the state after these events
abbrev pub end_of : Policy → List Record → List Event → State
end_of policy batch events = after_all (first_state batch policy) events

-- The least fault of recorded events on a batch: the first that names no request; or else the first that may not come,
-- with its first cause; or else that the run is not finished after all of them.
pub data IsLeastOfRun (policy : Policy) (batch : List Record) (named : List EventValue) (refusal : Printed) : Type 0 where
  OfIds : (at : ℕ) → IsFirstUnknown batch named at → resolve_row (Broken at UnknownEvent) ≡ Some refusal → IsLeastOfRun policy batch named refusal
  OfEvent : (events : List Event) (cause : RunRefusal) → AreResolved batch named events → StopsAt (first_state batch policy) events cause → run_row cause ≡ Some refusal → IsLeastOfRun policy batch named refusal
  OfEnd : (events : List Event) → AreResolved batch named events → IsRunFrom (first_state batch policy) events → is_finished (end_of policy batch events) ≡ false → refusal ≡ rule_row Unfinished → IsLeastOfRun policy batch named refusal

-- The response to a finished run of the batch, under the policy, by just these events. In it no request starts before all
-- that it names has ended with 2xx, and the response has exactly one element per id. It is read again as such, if a document
-- can record the events.
pub record IsResult (policy : Policy) (batch : List Record) (named : List EventValue) (ended : Ended) (text : List ℕ) : Type 0 where
  pub ends : ended ≡ Done
  pub events : List Event
  pub resolved : AreResolved batch named events
  pub run : IsRunFrom (first_state batch policy) events
  pub finished : is_finished (end_of policy batch events) ≡ true
  pub result : text ≡ response_line (end_of policy batch events)
  pub dependencies_first : StartsAfterDependencies batch events
  pub one_per_id : HasOnePerId batch (response_value (end_of policy batch events))
  pub read_again : All IsRecordableEvent named → IsReadAgain Requests batch (response_line (end_of policy batch events))

-- what is written of a batch by recorded events
abbrev pub RunsEvents : Policy → List Record → List EventValue → WritesIn
RunsEvents policy batch named form ended text = Reports (IsLeastOfRun policy batch named) form ended text ⊎ IsResult policy batch named ended text

-- what is written of a batch and the value of an events document
abbrev pub RunsValue : Policy → List Record → Data → WritesIn
RunsValue policy batch value form ended text = Reports (IsFaultOfEvents value) form ended text ⊎ ((named : List EventValue) × IsHistoryOf value named × RunsEvents policy batch named form ended text)

-- the same of the bytes of an events document
abbrev pub RunsBatch : Policy → List Record → List ℕ → WritesIn
RunsBatch policy batch = OfDocument places.Events (RunsValue policy batch)

-- what is written of a batch by the events document of a reader
abbrev pub Runs : Policy → Option (List ℕ) → List Record → WritesIn
Runs policy left = BySecond left (RunsBatch policy)
