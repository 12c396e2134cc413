-- What a call returns that takes what a service has answered a part of a live run, and how the run changes.
use Rattle.std.specs.Prelude.{◌≡◌, ◌≢◌, ℕ, List}
use Rattle.std.specs.List.{AllZip}
use Rattle.odb_doc.specs.Refusals.{Printed}
use Rattle.odb_sched.specs.declared.policy.Mode.{Mode}
use Rattle.odb_engine.specs.declared.form.Form.TheVariants.{Lines}
use Rattle.odb_live.specs.declared.run.LiveRun.{LiveRun}
use Rattle.odb_live.specs.declared.run.replies.Reply.{Reply}
use Rattle.odb_engine.specs.Cascade.{Reports}
use Rattle.odb_live.specs.Replies.{AreRepliesTo, IsLeastOfTaking, TakesNone}
use Rattle.odb_calls.specs.Options.{IsMode}
use Rattle.odb_calls.specs.Returns.{IsWrongOption, NamesNone, Returns}
use Rattle.odb_calls.specs.Sessions.{Call, IsSession}
use Rattle.odb_calls.specs.Sessions as session
use Rattle.odb_calls.specs.Steps.{Attempt, RefusesOne, attempts, bytes_at}
use Rattle.odb_calls.specs.Steps as steps

-- the call is this attempt, with headers and body as the bytes of the document; a report is never refused for want of memory, or for
-- its form
abbrev pub IsTried : List ℕ → Attempt → Call → Type 0
IsTried document (steps.StartUnit position) (session.StartUnit i returned) = i ≡ position
IsTried document (steps.Start position) (session.Start i returned) = i ≡ position
IsTried document (steps.Report reply) (session.Report i status headers body returned) =
    (i ≡ reply.position) × (status ≡ reply.status) × (headers ≡ bytes_at document reply.headers) × (body ≡ bytes_at document reply.body) × (returned ≢ 1) × (returned ≢ 4)
IsTried document attempt call = ⊥

-- the run is that after calls that are these attempts
pub record Follows (old new : LiveRun) (document : List ℕ) (tried : List Attempt) : Type 0 where
  pub calls : List Call
  pub are : AllZip (IsTried document) tried calls
  pub session : IsSession old calls new

-- why a part is not taken: there are no answers to it, or one has headers or a body that no report has
pub data IsLeastOfTake (live : LiveRun) (part document : List ℕ) (mode : Mode) (refusal : Printed) : Type 0 where
  OfReplies : IsLeastOfTaking live part document mode refusal → IsLeastOfTake live part document mode refusal
  OfReply : (replies : List Reply) → AreRepliesTo live part document mode replies → RefusesOne document replies refusal → IsLeastOfTake live part document mode refusal

-- What a call returns that takes the answers to a part: either the run is that after these starts and reports, or it is as it was. Where a
-- document is refused, the text is the line of the fault.
pub data TakesPart (old new : LiveRun) (part document : List ℕ) (mode status text_length : ℕ) (text new_text : List ℕ) : Type 0 where
  Taken : (named : Mode) (replies : List Reply) → IsMode mode named → AreRepliesTo old part document named replies → Follows old new document (attempts named replies) → status ≡ 0 → text_length ≡ 0 → new_text ≡ text → TakesPart old new part document mode status text_length text new_text
  NotTaken : (named : Mode) → IsMode mode named → Returns (Reports (IsLeastOfTake old part document named) Lines) status text_length text new_text → new ≡ old → TakesPart old new part document mode status text_length text new_text
  NoPart : TakesNone old part → IsWrongOption status text_length text new_text → new ≡ old → TakesPart old new part document mode status text_length text new_text
  WrongMode : NamesNone (IsMode mode) → IsWrongOption status text_length text new_text → new ≡ old → TakesPart old new part document mode status text_length text new_text
