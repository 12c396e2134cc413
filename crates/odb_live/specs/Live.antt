-- A run that goes on after recorded events, and what is written of it.
use Rattle.std.specs.Prelude.{◌≡◌, ◌⊎◌, ℕ, Bool, List, [], ◌∷◌, ◌++◌, length, Option, Some, None, true, false, replicate, slice_set, if◌then◌else◌}
use Rattle.odb_check.specs.Texts.{newline}
use Rattle.odb_doc.specs.declared.fault.TextFault.TheVariants.{NotWhole}
use Rattle.odb_doc.specs.batch.Records.{Record}
use Rattle.odb_doc.specs.Faults.{text_row}
use Rattle.odb_doc.specs.Refusals.{Printed}
use Rattle.odb_doc.specs.recorded.Events.{EventValue}
use Rattle.odb_sched.specs.declared.event.Event.{Event}
use Rattle.odb_sched.specs.declared.policy.Policy.{Policy}
use Rattle.odb_sched.specs.declared.refusal.RunRefusal.{RunRefusal}
use Rattle.odb_doc.specs.declared.rule_fault.RuleFault.TheVariants.{Broken}
use Rattle.odb_sched.specs.declared.event.ResolveRule.TheVariants.{UnknownEvent}
use Rattle.odb_sched.specs.run.Refusals.{run_row, resolve_row}
use Rattle.odb_sched.specs.run.Resolving.{IsFirstUnknown, IsResolved}
use Rattle.odb_sched.specs.run.Runs.{IsRunFrom, StopsAt}
use Rattle.odb_sched.specs.run.Answers.{answer}
use Rattle.odb_sched.specs.run.State.{State, first_state, without_requests}
use Rattle.odb_sched.specs.run.Steps.{is_finished}
use Rattle.odb_reply.specs.BodyTexts.{HasNoText, text_with}
use Rattle.odb_reply.specs.NotWhole.{IsFirstNotWholeValue}
use Rattle.odb_reply.specs.Responses.{LabelValue, labels_of}
use Rattle.odb_engine.specs.Cascade.{WritesIn, Prints, Reports, IsLeast, Accepts}
use Rattle.odb_engine.specs.Runs.{AreEventsIn, AreResolved, IsLeastOfEvents, end_of}
use Rattle.odb_engine.specs.Rules.{rule_row}
use Rattle.odb_engine.specs.declared.rule.EngineRule.TheVariants.{Unfinished}

-- a run, the ids and groups of the requests of its batch, and by position the bodies that were reported as text, and which
-- requests are in a part that was given
pub record Live : Type 0 where
  pub labels : List LabelValue
  pub texts : List (Option (List ℕ))
  pub out : List Bool
  pub run : State

-- the same with its run in this state
abbrev pub with_run : Live → State → Live
with_run live run = record live { run = run }

-- the same with this text, if any, as the body of the request at a position
abbrev pub with_text : Live → ℕ → Option (List ℕ) → Live
with_text live i text = record live { texts = slice_set live.texts i text }

-- The bytes are a document of events, which are a run of the batch, and this is the state after them, of no requests.
pub record IsAfter (policy : Policy) (batch : List Record) (bytes : List ℕ) (run : State) : Type 0 where
  pub named : List EventValue
  pub named_in : AreEventsIn bytes named
  pub events : List Event
  pub resolved : AreResolved batch named events
  pub may_come : IsRunFrom (first_state batch policy) events
  pub state : run ≡ without_requests (end_of policy batch events)

-- The least fault of an events document on a batch: of the document, or else the first event that names no request, or
-- else the first that may not come, with its first cause.
pub data IsLeastAfter (policy : Policy) (batch : List Record) (bytes : List ℕ) (refusal : Printed) : Type 0 where
  OfDocument : IsLeastOfEvents bytes refusal → IsLeastAfter policy batch bytes refusal
  OfIds : (named : List EventValue) → AreEventsIn bytes named → (at : ℕ) → IsFirstUnknown batch named at → resolve_row (Broken at UnknownEvent) ≡ Some refusal → IsLeastAfter policy batch bytes refusal
  OfEvent : (named : List EventValue) → AreEventsIn bytes named → (events : List Event) (cause : RunRefusal) → AreResolved batch named events → StopsAt (first_state batch policy) events cause → run_row cause ≡ Some refusal → IsLeastAfter policy batch bytes refusal

-- the ids and groups are those of the batch, the run is that after the events in these bytes, no request is in a part, and each
-- has a place for a text of its body, with none in it
pub record IsOpened (policy : Policy) (batch : List Record) (bytes : List ℕ) (live : Live) : Type 0 where
  pub labels : live.labels ≡ labels_of batch
  pub texts : HasNoText live.texts
  pub places : length live.texts ≡ length batch
  pub out : live.out ≡ replicate (length batch) false
  pub after : IsAfter policy batch bytes live.run

-- the live run of the batch in a document, after the events in another
abbrev pub Opens : Policy → List ℕ → List ℕ → Live → Type 0
Opens policy batch events live = Accepts batch (λ records. IsOpened policy records events live)

-- the least fault of a batch document and an events document that open no run
abbrev pub IsLeastOfOpening : Policy → List ℕ → List ℕ → Printed → Type 0
IsLeastOfOpening policy batch events refusal = IsLeast batch refusal ⊎ Accepts batch (λ records. IsLeastAfter policy records events refusal)

-- the fault of a state that is to be at its end: F66 if it is not finished, else none
abbrev pub end_row : State → Option Printed
end_row state = if is_finished state then None else Some (rule_row Unfinished)

-- Why a live run has no response: it is not finished, or else it answers a request by a value with a number that is not
-- whole.
pub data IsLeastOfLive (live : Live) (refusal : Printed) : Type 0 where
  OfEnd : is_finished live.run ≡ false → refusal ≡ rule_row Unfinished → IsLeastOfLive live refusal
  OfBody : (at : ℕ) → is_finished live.run ≡ true → IsFirstNotWholeValue live.texts live.run at → text_row (NotWhole at) ≡ Some refusal → IsLeastOfLive live refusal

-- what is written of a live run: the response if it is finished
abbrev pub Shows : Live → WritesIn
Shows live form ended text = Reports (IsLeastOfLive live) form ended text ⊎ ((is_finished live.run ≡ true) × Prints (text_with live.labels live.texts (answer live.run) ++ newline ∷ []) ended text)

-- A document of events records one event more than another, at its end, which is this event of the batch.
pub record RecordsOneMore (batch : List Record) (events more : List ℕ) (event : Event) : Type 0 where
  pub named : List EventValue
  pub last : EventValue
  pub before : AreEventsIn events named
  pub with_it : AreEventsIn more (named ++ last ∷ [])
  pub is : IsResolved batch last event
