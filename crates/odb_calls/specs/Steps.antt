-- What is tried with the answers to a part of a run: starts and reports of its requests, pass by pass (OData JSON Format 4.01,
-- sections 19.1 and 19.4; OData Protocol 4.01, section 8.2.8.3).
use Rattle.std.specs.Prelude.{◌≡◌, ◌==◌, ◌⊎◌, ◌&&◌, ℕ, Bool, true, false, not, List, [], ◌∷◌, ◌++◌, length, Contains, Option, Some, None, slice_get, if◌then◌else◌}
use Rattle.std.specs.List.{AllZip, list_any}
use Rattle.odb_doc.specs.Refusals.{Printed}
use Rattle.odb_doc.specs.Statuses.{is_error, is_success}
use Rattle.odb_check.specs.Firsts.{joined_below}
use Rattle.odb_reply.specs.ResponseDocuments.{responses_row}
use Rattle.odb_reply.specs.declared.response_fault.ResponseFault.TheVariants.{Response}
use Rattle.odb_sched.specs.declared.policy.Mode.{Mode}
use Rattle.odb_sched.specs.declared.policy.Mode.TheVariants.{Continue, Stop}
use Rattle.odb_spans.specs.Spans.{bytes_of}
use Rattle.odb_spans.specs.declared.span.Span.{Span}
use Rattle.odb_live.specs.declared.run.replies.Reply.{Reply}
use Rattle.odb_calls.specs.Live.{IsReported, IsReportedBody}
use Rattle.odb_calls.specs.Refused.{RefusesBody, RefusesHeaders}
use Rattle.odb_calls.specs.declared.steps.Pass.{Pass}
use Rattle.odb_calls.specs.declared.steps.Pass.TheVariants as passes
use Rattle.odb_calls.specs.declared.steps.Step.{Step}
use Rattle.odb_calls.specs.declared.steps.Step.TheVariants as made

-- a start of the unit of the request at a position, or of the request alone, or its report with what it was answered
pub data Attempt : Type 0 where
  StartUnit : (position : ℕ) → Attempt
  Start : (position : ℕ) → Attempt
  Report : (reply : Reply) → Attempt

-- ---- the passes

-- an error of the request itself: 424 may be that of another one
abbrev pub is_own_error : ℕ → Bool
is_own_error status = is_error status && not (status == 424)

-- whether an answer with this status is in the pass
abbrev pub has : Pass → ℕ → Bool
has passes.Each status = true
has passes.Successes status = is_success status
has passes.Others status = not (is_success status) && not (is_error status)
has passes.OtherUnits status = not (is_success status) && not (is_error status)
has passes.ErrorStarts status = is_own_error status
has passes.Errors status = is_own_error status
has passes.Skipped status = not (is_success status) && not (is_own_error status)

abbrev pub starts_unit : Pass → Bool
starts_unit passes.Each = true
starts_unit passes.Successes = false
starts_unit passes.Others = false
starts_unit passes.OtherUnits = true
starts_unit passes.ErrorStarts = true
starts_unit passes.Errors = true
starts_unit passes.Skipped = false

abbrev pub starts_alone : Pass → Bool
starts_alone passes.Each = false
starts_alone passes.Successes = true
starts_alone passes.Others = true
starts_alone passes.OtherUnits = false
starts_alone passes.ErrorStarts = true
starts_alone passes.Errors = true
starts_alone passes.Skipped = true

abbrev pub reports : Pass → Bool
reports passes.Each = true
reports passes.Successes = true
reports passes.Others = true
reports passes.OtherUnits = true
reports passes.ErrorStarts = false
reports passes.Errors = true
reports passes.Skipped = true

abbrev pub if_wanted : {X : Type 0} → Bool → X → List X
if_wanted wanted x = if wanted then x ∷ [] else []

-- what is tried with an answer in the pass
abbrev pub attempts_with : Pass → Reply → List Attempt
attempts_with pass reply = if_wanted (starts_unit pass) (StartUnit reply.position) ++ (if_wanted (starts_alone pass) (Start reply.position) ++ if_wanted (reports pass) (Report reply))

-- the same if it is in the pass
abbrev pub attempts_at : Pass → Option Reply → List Attempt
attempts_at pass None = []
attempts_at pass (Some reply) = if has pass reply.status then attempts_with pass reply else []

-- the same of all answers, in their order
abbrev pub attempts_in : Pass → List Reply → List Attempt
attempts_in pass replies = joined_below (length replies) (λ k. attempts_at pass (slice_get replies k))

-- a success without headers or body: of a member that was answered 424 but performed, and undone with its group
abbrev pub undone : Reply → Reply
undone reply = record reply { status = 204; headers = None; body = None }

-- what is tried with an answer that may be that of such a member: only if its request runs the report may come
abbrev pub undone_at : Option Reply → List Attempt
undone_at None = []
undone_at (Some reply) = if_wanted (reply.status == 424) (Report (undone reply))

-- the same of all answers, in their order
abbrev pub undone_in : List Reply → List Attempt
undone_in replies = joined_below (length replies) (λ k. undone_at (slice_get replies k))

-- a request has an error of its own, at which the service stops
abbrev pub has_own_error : List Reply → Bool
has_own_error replies = list_any (λ reply. is_own_error reply.status) replies

abbrev pub undone_unless : Bool → List Reply → List Attempt
undone_unless stops replies = if stops then [] else undone_in replies

-- What is tried with the answers: one after another; or, if the service stops at an error, the successes, the starts of the errors, what
-- is neither, alone and else with its unit, the errors, if there are none what was undone, and what is left.
abbrev pub attempts : Mode → List Reply → List Attempt
attempts Continue replies = attempts_in passes.Each replies
attempts Stop replies = attempts_in passes.Successes replies ++ (attempts_in passes.ErrorStarts replies ++ (attempts_in passes.Others replies ++ (attempts_in passes.OtherUnits replies ++ (attempts_in passes.Errors replies ++ (undone_unless (has_own_error replies) replies ++ attempts_in passes.Skipped replies)))))

-- ---- the steps

-- the bytes of a span of the document, and none without a span
abbrev pub bytes_at : List ℕ → Option Span → List ℕ
bytes_at document None = []
bytes_at document (Some span) = bytes_of document span

-- the step is made for this: an outcome has status, headers and body of the answer
abbrev pub IsStep : List ℕ → Attempt → Step → Type 0
IsStep document (StartUnit position) (made.StartUnit i) = i ≡ position
IsStep document (Start position) (made.Start i) = i ≡ position
IsStep document (Report reply) (made.Report i outcome body) = (i ≡ reply.position) × IsReported reply.status (bytes_at document reply.headers) outcome × IsReportedBody (bytes_at document reply.body) body
IsStep document attempt step = ⊥

abbrev pub AreSteps : List ℕ → List Attempt → List Step → Type 0
AreSteps document attempts steps = AllZip (IsStep document) attempts steps

-- the steps are longer by those for these attempts
abbrev pub Adds : List ℕ → List Attempt → List Step → List Step → Type 0
Adds document more old new = (tried : List Attempt) → AreSteps document tried old → AreSteps document (tried ++ more) new

-- ---- why there are none

-- F70 of the response at this place
abbrev pub IsBadResponse : ℕ → Printed → Type 0
IsBadResponse place refusal = responses_row (Response place) ≡ Some refusal

-- an answer has headers or a body that no report has
pub record RefusesReply (document : List ℕ) (reply : Reply) (refusal : Printed) : Type 0 where
  pub why : Printed
  pub bad : RefusesHeaders (bytes_at document reply.headers) why ⊎ RefusesBody (bytes_at document reply.body) why
  pub is : IsBadResponse reply.place refusal

abbrev pub RefusesOne : List ℕ → List Reply → Printed → Type 0
RefusesOne document replies refusal = (reply : Reply) × Contains replies reply × RefusesReply document reply refusal
