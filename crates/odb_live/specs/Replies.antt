-- What a service has answered a part of a live run, by the response document (OData JSON Format 4.01, section 19.5).
use Rattle.std.specs.Prelude.{◌≡◌, ◌⊎◌, ◌<◌, ◌≤◌, ℕ, Bool, true, false, List, Option, Some, None, Vec, All, length, option_and_then, slice_get, slice_index}
use Rattle.std.specs.List.{AllZip}
use Rattle.std.specs.Global.{Global}
use Rattle.serde_json.specs.Data.{Data}
use Rattle.odb_doc.specs.Documents.{IsDocument}
use Rattle.odb_doc.specs.declared.fault.Place.TheVariants.{Responses}
use Rattle.odb_doc.specs.Refusals.{Printed}
use Rattle.odb_doc.specs.batch.Records.{Record}
use Rattle.odb_check.specs.Firsts.{list_below}
use Rattle.odb_sched.specs.declared.policy.Mode.{Mode}
use Rattle.odb_sched.specs.declared.states.RequestState.{RequestState}
use Rattle.odb_sched.specs.declared.states.RequestState.TheVariants.{Waiting, Ready, Running, Reported, Skipped}
use Rattle.odb_sched.specs.run.State.{is_running, phase_at, size}
use Rattle.odb_sched.specs.run.States.{request_state}
use Rattle.odb_reply.specs.ResponseDocuments.{Entry, responses_row}
use Rattle.odb_reply.specs.declared.response_fault.ResponseFault.{ResponseFault}
use Rattle.odb_reply.specs.declared.response_fault.ResponseFault.TheVariants.{Response}
use Rattle.odb_spans.specs.Spans.{IsWithin}
use Rattle.odb_spans.specs.declared.span.Span.{Span}
use Rattle.odb_send.specs.ResponseParts.{AreResponsesOf}
use Rattle.odb_send.specs.Units.{marked}
use Rattle.odb_send.specs.declared.responses.ResponseList.{ResponseList}
use Rattle.odb_live.specs.declared.run.replies.Reply.{Reply}
use Rattle.odb_engine.specs.Cascade.{Accepts, IsLeast, IsLeastOf}
use Rattle.odb_live.specs.Labels.{position_of}
use Rattle.odb_live.specs.Live.{Live}
use Rattle.odb_engine.specs.Matches.{HasNoTable, IsTableIn}

-- ---- the requests of the part

-- whether a request has started
abbrev pub has_started : RequestState → Bool
has_started Waiting = false
has_started Ready = false
has_started Running = true
has_started (Reported status) = true
has_started Skipped = false

-- the request with this id is in a part that was given, and has not started
pub record IsOutAt (live : Live) (id : List ℕ) (i : ℕ) : Type 0 where
  pub position : position_of live.labels id ≡ Some i
  pub within : i < size live.run
  pub given : marked live.out i ≡ true
  pub unstarted : has_started (request_state live.run i) ≡ false

-- nothing is running, and these are the positions of the requests, which are in a part that was given, and have not started
pub record AreOut (live : Live) (part : List Record) (positions : List ℕ) : Type 0 where
  pub none_runs : (i : ℕ) → i < size live.run → is_running (phase_at live.run i) ≡ false
  pub each : AllZip (λ r i. IsOutAt live r.id i) part positions

-- so may the part be taken
abbrev pub MayTake : Live → List Record → Type 0
MayTake live part = (positions : List ℕ) × AreOut live part positions

-- ---- their answers

-- the headers of the response at a place, and its body; places past the end have none
abbrev pub headers_at : ResponseList → ℕ → Option Span
headers_at found place = option_and_then (λ parts. parts.headers) (slice_get found.parts.items place)

abbrev pub body_at : ResponseList → ℕ → Option Span
body_at found place = option_and_then (λ parts. parts.body) (slice_get found.parts.items place)

-- the answer to a request of the part, by the table of the responses
abbrev pub reply_at : ResponseList → (positions places statuses : List ℕ) → ℕ → Reply
reply_at found positions places statuses k = record {
  position = slice_index positions k;
  place = slice_index places k;
  status = slice_index statuses k;
  headers = headers_at found (slice_index places k);
  body = body_at found (slice_index places k);
}

-- the headers and the body lie in the document
pub record LiesIn (document : List ℕ) (reply : Reply) : Type 0 where
  pub headers : IsWithin (length document) reply.headers
  pub body : IsWithin (length document) reply.body

-- the responses of the value fit the part, this is their table, and each status is final
pub record IsFinalTableIn (mode : Mode) (part : List Record) (value : Data) (places statuses : List ℕ) : Type 0 where
  pub table : IsTableIn mode part value places statuses
  pub are_final : (k : ℕ) → k < length part → 200 ≤ slice_index statuses k

-- the document has these answers to the requests of a part, whose positions these are
pub record AreReplies (mode : Mode) (part : List Record) (positions document : List ℕ) (replies : List Reply) : Type 0 where
  pub value : Data
  pub is : IsDocument document value
  pub places : List ℕ
  pub statuses : List ℕ
  pub table : IsFinalTableIn mode part value places statuses
  pub entries : List Entry
  pub found : ResponseList
  pub responses : AreResponsesOf document value entries found
  pub are : replies ≡ list_below (length part) (reply_at found positions places statuses)

-- the same of the bytes of a part
abbrev pub AreRepliesTo : Live → (part document : List ℕ) → Mode → List Reply → Type 0
AreRepliesTo live part document mode replies = Accepts part (λ batch. (positions : List ℕ) × AreOut live batch positions × AreReplies mode batch positions document replies)

-- the requests of a batch are a part that may be taken, and these are their answers; or they are not
abbrev pub AreFound : Live → List Record → List ℕ → Mode → Option (Vec Reply Global) → Type 0
AreFound live batch document mode None = ¬ MayTake live batch
AreFound live batch document mode (Some made) = ((positions : List ℕ) × AreOut live batch positions × AreReplies mode batch positions document made.items) × All (LiesIn document) made.items

-- something is running, or a request of the part is in none that was given or has started
abbrev pub TakesNone : Live → List ℕ → Type 0
TakesNone live part = Accepts part (λ batch. ¬ MayTake live batch)

-- ---- why there are none

-- the fault is F70 of a response whose status in the table is not final
abbrev pub IsNotFinal : (places statuses : List ℕ) → ResponseFault → Type 0
IsNotFinal places statuses fault = (k place status : ℕ) × (slice_get places k ≡ Some place) × (slice_get statuses k ≡ Some status) × (status < 200) × (fault ≡ Response place)

-- why there is no such table: there is none, or a status is not final
pub data HasNoFinalTable (mode : Mode) (part : List Record) (value : Data) (refusal : Printed) : Type 0 where
  OfTable : HasNoTable mode part value refusal → HasNoFinalTable mode part value refusal
  OfStatus : (places statuses : List ℕ) (fault : ResponseFault) → IsTableIn mode part value places statuses → IsNotFinal places statuses fault → responses_row fault ≡ Some refusal → HasNoFinalTable mode part value refusal

-- why a document has no answers to the part
abbrev pub IsLeastOfReplies : Mode → List Record → List ℕ → Printed → Type 0
IsLeastOfReplies mode part = IsLeastOf Responses (HasNoFinalTable mode part)

-- the requests of a batch are a part that may be taken, but the document has no answers to it
abbrev pub RefusesReplies : Live → List Record → List ℕ → Mode → Printed → Type 0
RefusesReplies live batch document mode refusal = MayTake live batch × IsLeastOfReplies mode batch document refusal

-- the same of the bytes of a part, whose faults come first
abbrev pub IsLeastOfTaking : Live → (part document : List ℕ) → Mode → Printed → Type 0
IsLeastOfTaking live part document mode refusal = IsLeast part refusal ⊎ Accepts part (λ batch. RefusesReplies live batch document mode refusal)
