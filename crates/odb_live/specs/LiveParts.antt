-- The next part of a live run, as a batch of its own, and the marks of the requests that are in a part (OData JSON Format 4.01,
-- sections 19.1 and 19.4).
use Rattle.std.specs.Prelude.{◌≡◌, ◌⊎◌, ◌<◌, ℕ, List, [], ◌∷◌, Bool, true, false, Option, Some, None, All, Contains, length, option_map, slice_set, string_bytes, unwrap_or, if◌then◌else◌}
use Rattle.serde_json.specs.Data.{Data}
use Rattle.odb_doc.specs.batch.Records.{Record}
use Rattle.odb_doc.specs.Refusals.{Printed}
use Rattle.odb_doc.specs.Statuses.{is_success}
use Rattle.odb_doc.specs.declared.recorded.outcome.Outcome.{Outcome}
use Rattle.odb_check.specs.Firsts.{list_below}
use Rattle.odb_check.specs.Needs.{needs_at}
use Rattle.odb_check.specs.PlanGraph.{unit_needed}
use Rattle.odb_check.specs.declared.need.Need.{Need}
use Rattle.odb_check.specs.Units.{unit_at}
use Rattle.odb_reply.specs.Responses.{labels_of}
use Rattle.odb_sched.specs.declared.states.RequestState.{RequestState}
use Rattle.odb_sched.specs.declared.states.RequestState.TheVariants.{Waiting, Ready, Running, Reported, Skipped}
use Rattle.odb_sched.specs.run.Answers.{reported}
use Rattle.odb_sched.specs.run.State.{State, has_succeeded, is_running, phase_at, size}
use Rattle.odb_sched.specs.run.States.{request_state}
use Rattle.odb_sched.specs.run.Steps.{unit_failed}
use Rattle.odb_sched.specs.run.Units.{IsOver, has_begun}
use Rattle.odb_send.specs.Faults.{RestFault, rest_row}
use Rattle.odb_send.specs.declared.rest.Rest.{Rest}
use Rattle.odb_send.specs.Answers.{Answer, headers_answer, nothing}
use Rattle.odb_send.specs.NextPart as parts
use Rattle.odb_send.specs.NextPart.{AreFitting, HasNoLonger, HasProgress, IsPartAfter, may_start, positions_in}
use Rattle.odb_send.specs.Parts.{IsBatchIn}
use Rattle.odb_send.specs.Rests.{kept}
use Rattle.odb_send.specs.Texts.{IsTextOf}
use Rattle.odb_send.specs.Units.{marked}
use Rattle.odb_live.specs.declared.run.parts.Part.{Part}
use Rattle.odb_engine.specs.Cascade.{Accepts, IsLeast}
use Rattle.odb_live.specs.Live.{Live}

-- what has become of a request, where one that is in a part and may still start counts as running
abbrev pub seen : Bool → RequestState → RequestState
seen false state = state
seen true Waiting = Running
seen true Ready = Running
seen true Running = Running
seen true (Reported status) = Reported status
seen true Skipped = Skipped

abbrev pub seen_at : State → List Bool → ℕ → RequestState
seen_at run out i = seen (marked out i) (request_state run i)

-- the same of each request
abbrev pub states_of : State → List Bool → List RequestState
states_of run out = list_below (size run) (seen_at run out)

-- the Location and the ETag in an outcome, if it is that of a success
abbrev pub answer_in : Outcome → Answer
answer_in outcome = if is_success outcome.status then headers_answer outcome.headers else nothing

-- what a request has reported of them
abbrev pub answer : State → ℕ → Answer
answer run i = unwrap_or (option_map answer_in (reported run i)) nothing

-- this is the next part of the run: a text of these requests
pub record IsPart (document : List ℕ) (batch : List Record) (run : State) (out : List Bool) (limit : ℕ) (part : Part) : Type 0 where
  pub rest : Rest
  pub part_is : IsPartAfter batch (states_of run out) limit (answer run) rest
  pub text_is : (d : Data) → IsBatchIn document d batch → IsTextOf document d batch rest (string_bytes part.text)
  pub positions_are : part.positions.items ≡ positions_in batch (kept rest)

-- the fault is at the first request that lacks a Location or an ETag, of the first unit that may be sent
abbrev pub LacksHeaders : List Record → State → List Bool → ℕ → RestFault → Type 0
LacksHeaders batch run out limit fault = (done left fitting : List Bool) → HasProgress batch (states_of run out) done left → AreFitting batch done left limit fitting → parts.RefusesPart fault batch fitting (answer run)

-- it is the batch of the run, and each of its units fits into a part
abbrev pub MayBeParted : Live → List Record → ℕ → Type 0
MayBeParted live batch limit = (live.labels ≡ labels_of batch) × HasNoLonger batch limit

-- these requests are the batch of the run, each of whose units fits into a part, and this is the next; or they are not
abbrev pub IsFoundPart : Live → List ℕ → List Record → ℕ → Option Part → Type 0
IsFoundPart live document batch limit None = ¬ MayBeParted live batch limit
IsFoundPart live document batch limit (Some part) = MayBeParted live batch limit × IsPart document batch live.run live.out limit part × All (λ i. i < size live.run) part.positions.items

-- a request of the first unit that may be sent lacks a Location or an ETag
pub record RefusesPart (live : Live) (batch : List Record) (limit : ℕ) (refusal : Printed) : Type 0 where
  pub fault : RestFault
  pub may : MayBeParted live batch limit
  pub lacks : LacksHeaders batch live.run live.out limit fault
  pub is : rest_row fault ≡ Some refusal

-- the bytes are the batch of the run, each of whose units fits into a part, and this is the next
abbrev pub IsPartIn : Live → List ℕ → ℕ → Part → Type 0
IsPartIn live document limit part = Accepts document (λ batch. MayBeParted live batch limit × IsPart document batch live.run live.out limit part)

-- the bytes are another batch than that of the run, or one of its units fits into no part
abbrev pub HasNoParts : Live → List ℕ → ℕ → Type 0
HasNoParts live document limit = Accepts document (λ batch. ¬ MayBeParted live batch limit)

-- why there is no part: the least fault of the batch, or a request that lacks a Location or an ETag, of the first unit that may be sent
pub data IsLeastOfPart (live : Live) (document : List ℕ) (limit : ℕ) (refusal : Printed) : Type 0 where
  OfBatch : IsLeast document refusal → IsLeastOfPart live document limit refusal
  OfHeaders : (fault : RestFault) → Accepts document (λ batch. MayBeParted live batch limit × LacksHeaders batch live.run live.out limit fault) → rest_row fault ≡ Some refusal → IsLeastOfPart live document limit refusal

-- ---- the requests that are in a part

-- the marks, once the requests at these positions are in a part too
abbrev pub marks_after : List Bool → List ℕ → List Bool
marks_after out [] = out
marks_after out (i ∷ is) = marks_after (slice_set out i true) is

-- the same run, whose requests at these positions are in a part
abbrev pub with_part : Live → List ℕ → Live
with_part live positions = record live { out = marks_after live.out positions }

-- ---- what holds of every part of a run

-- what a request of the part needs is in the part, or each request of its unit has succeeded
abbrev pub RestsOnPart : List Record → State → List ℕ → Type 0
RestsOnPart batch run positions = (i : ℕ) (need : Need) → Contains positions i → Contains (needs_at batch i) need
    → (r : ℕ) → r < size run → unit_at batch r ≡ unit_needed (unit_at batch) need → Contains positions r ⊎ (has_succeeded (phase_at run r) ≡ true)

-- with a request all of its unit are in the part
abbrev pub HasWholeUnits : List Record → List ℕ → Type 0
HasWholeUnits batch positions = (i j : ℕ) → Contains positions i → j < length batch → unit_at batch j ≡ unit_at batch i → Contains positions j

-- Nothing is on its way: no request runs, none that is in a part may still start, and of each unit that has begun all have reported,
-- unless it has failed.
pub record IsIdle (live : Live) : Type 0 where
  pub none_runs : (i : ℕ) → i < size live.run → is_running (phase_at live.run i) ≡ false
  pub none_out : (i : ℕ) → i < size live.run → marked live.out i ≡ true → may_start (request_state live.run i) ≡ false
  pub none_begun : (u : ℕ) → u < live.run.plan_graph.unit_count → has_begun live.run u ≡ true → IsOver live.run u ⊎ (unit_failed live.run u ≡ true)
