use Rattle.std.proofs.Common.{◌≡◌, ◌≢◌, ℕ, List, [], Err, ap, refl}
use Rattle.odb_doc.specs.Refusals as refusals
use Rattle.odb_doc.specs.declared.recorded.outcome.Outcome.{Outcome}
use Rattle.odb_engine.specs.declared.halt.Halt.{Halt}
use Rattle.odb_engine.specs.declared.halt.Halt.TheVariants as halts
use Rattle.odb_live.specs.declared.run.LiveRun.{LiveRun}
use Rattle.odb_engine.specs.Halts.{Halted}
use Rattle.odb_calls.specs.Live.{TakesBody}
use Rattle.odb_calls.specs.Live.TakesBody.{Taken, Refused, OutOfMemory}
use Rattle.odb_calls.specs.Refused.{RefusesBody}
use Rattle.odb_calls.specs.Returns.{halt_status}
use Rattle.odb_calls.proofs.live.take_body.Goals as goal

-- there is no text
unread : (live : LiveRun) (i : ℕ) (outcome : Outcome) (body : List ℕ) (halt : Halt) (returned : ℕ) → Halted (RefusesBody body) halt → (halt ≡ halts.OutOfMemory → body ≢ []) → halt ≢ halts.Read → returned ≡ halt_status halt
    → TakesBody live live i outcome body returned
unread live i outcome body (halts.Refused refusal) returned refused memory read is = Refused (refusals.printed refusal) refused is refl
unread live i outcome body halts.OutOfMemory returned refused memory read is = OutOfMemory (memory refl) is refl
unread live i outcome body halts.Read returned refused memory read is = absurd (read refl)

pub returns-in-Ok : goal.returns-in-Ok
returns-in-Ok c = Taken _ c.in-Ok.ensures.some c.take.ensures

pub returns-in-Err : goal.returns-in-Err
returns-in-Err c = unread c.args.live.now c.args.position c.args.outcome c.args.body.now c.in-Err.halt c.of_halt.result c.in-Err.ensures.refused (λ same. c.in-Err.ensures.memory (ap Err same)) (λ same. c.in-Err.ensures.read (ap Err same)) c.of_halt.ensures
