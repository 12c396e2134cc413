-- What a caller makes of a live run by its calls, one after another (OData JSON Format 4.01, sections 19.1, 19.4 and 19.5; OData
-- Protocol 4.01, section 11.7).
use Rattle.std.specs.Prelude.{◌≡◌, ◌≢◌, ◌<◌, ◌==◌, ◌⊎◌, ℕ, Bool, true, false, List, [], ◌∷◌, ◌++◌, length, map, Contains, Option, Some}
use Rattle.std.specs.Prelude.{None as Absent}
use Rattle.odb_doc.specs.batch.Records.{Record}
use Rattle.odb_doc.specs.declared.recorded.outcome.Outcome.{Outcome}
use Rattle.odb_check.specs.Units.{unit_at}
use Rattle.odb_sched.specs.declared.event.Event.{Event}
use Rattle.odb_sched.specs.declared.event.Event.TheVariants as single
use Rattle.odb_sched.specs.declared.policy.Policy.{Policy}
use Rattle.odb_sched.specs.run.State.{stopped}
use Rattle.odb_sched.specs.run.Answers.{answer}
use Rattle.odb_sched.specs.run.LiveEvents.{IsLiveRun, LiveEvent, Single, live_state}
use Rattle.odb_sched.specs.run.LiveEvents as live_event
use Rattle.odb_sched.specs.run.LiveLaws.{KeepsPromises}
use Rattle.odb_reply.specs.BodyTexts.{text_at, value_with}
use Rattle.odb_reply.specs.Fits.{ListsFit}
use Rattle.odb_reply.specs.OnePerId.{HasOnePerId}
use Rattle.odb_reply.specs.Readable.{HasShallowValues}
use Rattle.odb_reply.specs.ResponseDocuments.{IsResponseDocument}
use Rattle.odb_reply.specs.Responses.{labels_of}
use Rattle.odb_live.specs.Live.{IsAfter, Live, with_run}
use Rattle.odb_live.specs.LiveParts.{with_part}
use Rattle.odb_calls.specs.Live.{IsReported, IsReportedBody, Reports, Starts}
use Rattle.odb_calls.specs.Units.{StartsUnit}

-- A call on a run that was opened: what it is passed, and what it returns. `Part` is a call that gives a part, whose requests are
-- marked, and `Ask` each call that asks something of the run, as which requests are ready.
pub data Call : Type 0 where
  Start : (position returned : ℕ) → Call
  StartUnit : (position returned : ℕ) → Call
  Report : (position status : ℕ) (headers body : List ℕ) (returned : ℕ) → Call
  Stop : Call
  Part : (positions : List ℕ) → Call
  Ask : Call

-- what a call does, as the clause of its function has it
abbrev pub Does : Call → Live → Live → Type 0
Does (Start position returned) old new = Starts old new position returned
Does (StartUnit position returned) old new = StartsUnit old new position returned
Does (Report position status headers body returned) old new = Reports old new position status headers body returned
Does Stop old new = new ≡ with_run old (stopped old.run)
Does (Part positions) old new = new ≡ with_part old positions
Does Ask old new = new ≡ old

-- the calls lead from the one run to the other
abbrev pub IsSession : Live → List Call → Live → Type 0
IsSession first [] last = last ≡ first
IsSession first (call ∷ calls) last = (next : Live) × Does call first next × IsSession next calls last

-- whether a call is taken: it returns 0, and is no question
abbrev pub is_taken : Call → Bool
is_taken (Start position returned) = returned == 0
is_taken (StartUnit position returned) = returned == 0
is_taken (Report position status headers body returned) = returned == 0
is_taken Stop = true
is_taken (Part positions) = false
is_taken Ask = false

-- but for the marks of parts the one run is the other, with the same ids and the same texts of bodies
pub record AreAlike (live other : Live) : Type 0 where
  pub labels : live.labels ≡ other.labels
  pub texts : live.texts ≡ other.texts
  pub run : live.run ≡ other.run

-- the call is taken: it returns 0, and is this event
abbrev pub IsTakenAs : List Record → Call → LiveEvent → Type 0
IsTakenAs requests (Start position returned) event = (returned ≡ 0) × (event ≡ Single (single.Start position))
IsTakenAs requests (StartUnit position returned) event = (returned ≡ 0) × (event ≡ live_event.StartUnit (unit_at requests position))
IsTakenAs requests (Report position status headers body returned) event = (returned ≡ 0) × (outcome : Outcome) × IsReported status headers outcome × (event ≡ Single (single.Report position outcome))
IsTakenAs requests Stop event = event ≡ live_event.Stop
IsTakenAs requests (Part positions) event = ⊥
IsTakenAs requests Ask event = ⊥

-- the call is no event: it is refused, gives a part, or asks
abbrev pub IsNoEvent : Call → Type 0
IsNoEvent (Start position returned) = returned ≢ 0
IsNoEvent (StartUnit position returned) = returned ≢ 0
IsNoEvent (Report position status headers body returned) = returned ≢ 0
IsNoEvent Stop = ⊥
IsNoEvent (Part positions) = Unit {0}
IsNoEvent Ask = Unit {0}

-- the events are those of the calls that are taken, in order
pub data AreTaken (requests : List Record) : List Call → List LiveEvent → Type 0 where
  None : AreTaken requests [] []
  Taken : (call : Call) (event : LiveEvent) (calls : List Call) (events : List LiveEvent) → IsTakenAs requests call event → AreTaken requests calls events → AreTaken requests (call ∷ calls) (event ∷ events)
  Passed : (call : Call) (calls : List Call) (events : List LiveEvent) → IsNoEvent call → AreTaken requests calls events → AreTaken requests (call ∷ calls) events

-- a report of the request was taken, with the status and the headers of this outcome, and with this text as its body, byte for byte
pub record IsOfCall (calls : List Call) (i : ℕ) (outcome : Outcome) (text : Option (List ℕ)) : Type 0 where
  pub status : ℕ
  pub headers : List ℕ
  pub body : List ℕ
  pub taken : Contains calls (Report i status headers body 0)
  pub reported : IsReported status headers outcome
  pub body_is : IsReportedBody body text

-- the outcome of a request is that of a report that was taken, or of one of these events, which has its body as a value
abbrev pub IsReportedBy : List Call → List Event → ℕ → Outcome → Option (List ℕ) → Type 0
IsReportedBy calls events i outcome text = IsOfCall calls i outcome text ⊎ (Contains events (single.Report i outcome) × (text ≡ Absent))

-- What calls keep of a run that was opened after the events in a document: the run is that of these events and of those that
-- were taken since, which keeps what is promised of every live run, and so has a response with one element per id, which fits.
-- A request is answered as it was reported, or as a failed dependency.
pub record KeepsSession (policy : Policy) (requests : List Record) (bytes : List ℕ) (first : Live) (calls : List Call) (last : Live) : Type 0 where
  pub opened : IsAfter policy requests bytes first.run
  pub events : List LiveEvent
  pub taken : AreTaken requests calls events
  pub live : IsLiveRun requests policy (map Single opened.events ++ events)
  pub state : last.run ≡ live_state requests policy (map Single opened.events ++ events)
  pub promises : KeepsPromises requests policy (map Single opened.events ++ events)
  pub one_per_id : HasOnePerId requests (value_with last.labels last.texts (answer last.run))
  pub fits : ListsFit requests (value_with last.labels last.texts (answer last.run))
  pub document : IsResponseDocument (value_with last.labels last.texts (answer last.run))
  pub labels : last.labels ≡ labels_of requests
  pub answers : (i : ℕ) (outcome : Outcome) → i < length requests → answer last.run i ≡ Some outcome → IsReportedBy calls opened.events i outcome (text_at last.texts i)
  pub shallow : HasShallowValues last.texts last.run
