-- What a call on a live run returns, and how the run changes.
use Rattle.std.specs.Prelude.{◌≡◌, ◌≢◌, ◌<◌, ◌≤◌, ◌+◌, ℕ, List, [], Option, Some, None, IsUtf8, min, true, false}
use Rattle.serde_json.specs.Data.{Data}
use Rattle.serde_json.specs.Read.{read}
use Rattle.odb_doc.specs.declared.recorded.outcome.Outcome.{Outcome}
use Rattle.odb_doc.specs.Documents.{IsDocument}
use Rattle.odb_doc.specs.Refusals.{Printed}
use Rattle.odb_doc.specs.recorded.Parts.{HasParts}
use Rattle.odb_sched.specs.declared.policy.Policy.{Policy}
use Rattle.odb_sched.specs.declared.refusal.StartRefusal.{StartRefusal}
use Rattle.odb_sched.specs.declared.refusal.ReportRefusal.{ReportRefusal}
use Rattle.odb_sched.specs.run.Steps.{IsStartCause, IsReportCause, start_number, report_number, is_finished, may_start, may_report}
use Rattle.odb_sched.specs.run.Answers.{answer, undone}
use Rattle.odb_sched.specs.run.State.{State, size, started, reported}
use Rattle.odb_reply.specs.BodyTexts.{IsBody, value_with}
use Rattle.odb_reply.specs.Readable.{HasShallowValues}
use Rattle.odb_engine.specs.Cascade as cascade
use Rattle.odb_engine.specs.declared.ending.Ended.{Ended}
use Rattle.odb_engine.specs.declared.ending.Ended.TheVariants.{Done}
use Rattle.odb_engine.specs.declared.form.Form.{Form}
use Rattle.odb_engine.specs.declared.form.Form.TheVariants.{Lines}
use Rattle.odb_live.specs.declared.run.LiveRun.{LiveRun}
use Rattle.odb_live.specs.Labels.{position_of}
use Rattle.odb_live.specs.Live.{Opens, IsLeastOfOpening, Shows, with_run, with_text}
use Rattle.odb_calls.specs.Refused.{RefusesBody, RefusesHeaders}
use Rattle.odb_calls.specs.Returns.{Fills, IsOutOfMemory, Returns}

-- What is returned if a live run is to be opened, and what is in its place then. Where it is not opened, the text is the
-- line of the least fault.
pub data Opening (policy : Policy) (batch events : List ℕ) (is : Option LiveRun) (status text_length : ℕ) (old new : List ℕ) : Type 0 where
  Opened : (live : LiveRun) → is ≡ Some live → Opens policy batch events live → status ≡ 0 → text_length ≡ 0 → new ≡ old → Opening policy batch events is status text_length old new
  NotOpened : Returns (cascade.Reports (IsLeastOfOpening policy batch events) Lines) status text_length old new → Opening policy batch events is status text_length old new

-- What a call returns that gives the undone positions of a run, from the last to the first: it gives them only of a finished
-- run. Otherwise their number is 0, and the buffer is as it was.
pub data GivesUndone (run : State) (status count : ℕ) (old new : List ℕ) : Type 0 where
  Undone : is_finished run ≡ true → Fills (undone run) 0 status count old new → GivesUndone run status count old new
  Unfinished : is_finished run ≡ false → status ≡ 1 → count ≡ 0 → new ≡ old → GivesUndone run status count old new
  OutOfMemory : is_finished run ≡ true → IsOutOfMemory status count old new → GivesUndone run status count old new

-- What a call returns that looks for the request with an id: its position, or that there is none, and the place of the
-- position is as it was.
pub data GivesPosition (live : LiveRun) (id : List ℕ) (status old new : ℕ) : Type 0 where
  Found : position_of live.labels id ≡ Some new → status ≡ 0 → GivesPosition live id status old new
  NoRequest : position_of live.labels id ≡ None → status ≡ 2 → new ≡ old → GivesPosition live id status old new

-- What the response of a live run is: what is shown of it. Of a finished run it is UTF-8, and is read as the value of the
-- response, if no body that is a value nests more than 124 deep.
pub record Responds (live : LiveRun) (form : Form) (ended : Ended) (text : List ℕ) : Type 0 where
  pub shows : Shows live form ended text
  pub utf8 : ended ≡ Done → IsUtf8 text
  pub reads_back : ended ≡ Done → HasShallowValues live.texts live.run → read text ≡ Some (value_with live.labels live.texts (answer live.run))

-- What the start of a request returns: 0 if it may come, and the run has gone on; the first cause against it, or that there
-- is no such request, and nothing has changed.
pub data Starts (old new : LiveRun) (i status : ℕ) : Type 0 where
  Started : i < size old.run → may_start old.run i ≡ true → status ≡ 0 → new ≡ with_run old (started old.run i) → Starts old new i status
  Refused : (cause : StartRefusal) → i < size old.run → IsStartCause old.run i cause → status ≡ 10 + start_number cause → new ≡ old → Starts old new i status
  NoRequest : size old.run ≤ i → status ≡ 2 → new ≡ old → Starts old new i status

-- what the report of a request with an outcome, and with its body as text if it has one, returns
pub data Takes (old new : LiveRun) (i : ℕ) (outcome : Outcome) (text : Option (List ℕ)) (status : ℕ) : Type 0 where
  Taken : may_report old.run i outcome ≡ true → status ≡ 0 → new ≡ with_text (with_run old (reported old.run i outcome)) i text → Takes old new i outcome text status
  Refused : (cause : ReportRefusal) → IsReportCause old.run i outcome cause → status ≡ 20 + report_number cause → new ≡ old → Takes old new i outcome text status

-- the same of any position
pub data TakesAt (old new : LiveRun) (i : ℕ) (outcome : Outcome) (text : Option (List ℕ)) (status : ℕ) : Type 0 where
  Tried : i < size old.run → Takes old new i outcome text status → TakesAt old new i outcome text status
  NoRequest : size old.run ≤ i → status ≡ 2 → new ≡ old → TakesAt old new i outcome text status

-- the bytes are the JSON of this value, or there are none
pub data IsPart (bytes : List ℕ) : Option Data → Type 0 where
  Absent : bytes ≡ [] → IsPart bytes None
  Present : (d : Data) → IsDocument bytes d → IsPart bytes (Some d)

-- The outcome has this status, the headers in these bytes, and no body. A status above 65,535 is as 65,535, which no run
-- takes either.
pub record IsReported (status : ℕ) (headers : List ℕ) (outcome : Outcome) : Type 0 where
  pub headers_value : Option Data
  pub of_headers : IsPart headers headers_value
  pub parts : HasParts (min status 65535) headers_value None outcome

-- The text of the body in these bytes, which are JSON that nests at most 124 deep: just these bytes, or none if there are
-- none or if they are the JSON null.
pub data IsReportedBody (bytes : List ℕ) (text : Option (List ℕ)) : Type 0 where
  Absent : bytes ≡ [] → text ≡ None → IsReportedBody bytes text
  Present : IsBody bytes text → IsReportedBody bytes text

-- What the report of a request with an outcome and with a body in these bytes returns. Nothing has changed but with 0. Without a
-- body no memory is needed.
pub data TakesBody (old new : LiveRun) (i : ℕ) (outcome : Outcome) (body : List ℕ) (returned : ℕ) : Type 0 where
  Taken : (text : Option (List ℕ)) → IsReportedBody body text → Takes old new i outcome text returned → TakesBody old new i outcome body returned
  Refused : (refusal : Printed) → RefusesBody body refusal → returned ≡ 1 → new ≡ old → TakesBody old new i outcome body returned
  OutOfMemory : body ≢ [] → returned ≡ 4 → new ≡ old → TakesBody old new i outcome body returned

-- What the report of a request returns: the position is looked at before the headers, and they before the body. Nothing has
-- changed but with 0. A report of a status alone needs no memory.
pub data Reports (old new : LiveRun) (i status : ℕ) (headers body : List ℕ) (returned : ℕ) : Type 0 where
  Taken : (outcome : Outcome) → i < size old.run → IsReported status headers outcome → TakesBody old new i outcome body returned → Reports old new i status headers body returned
  Refused : (refusal : Printed) → i < size old.run → RefusesHeaders headers refusal → returned ≡ 1 → new ≡ old → Reports old new i status headers body returned
  NoRequest : size old.run ≤ i → returned ≡ 2 → new ≡ old → Reports old new i status headers body returned
  OutOfMemory : i < size old.run → headers ≢ [] → returned ≡ 4 → new ≡ old → Reports old new i status headers body returned
