use Rattle.std.proofs.Common.{◌≡◌, ◌≢◌, ◌<◌, ℕ, List, [], rules, Err, ap, refl}
use Rattle.odb_engine.specs.declared.halt.Halt.{Halt}
use Rattle.odb_engine.specs.declared.halt.Halt.TheVariants as halts
use Rattle.odb_live.specs.declared.run.LiveRun.{LiveRun}
use Rattle.odb_engine.specs.Halts.{Halted}
use Rattle.odb_doc.specs.Refusals as refusals
use Rattle.odb_sched.specs.run.State.{size}
use Rattle.odb_calls.specs.Live.{Reports}
use Rattle.odb_calls.specs.Live.Reports.{Taken, Refused, OutOfMemory}
use Rattle.odb_calls.specs.Refused.{RefusesHeaders}
use Rattle.odb_calls.specs.Returns.{halt_status}
use Rattle.odb_calls.proofs.live.report.Goals as goal

-- there is no outcome
unmade : (live : LiveRun) (i status : ℕ) (headers body : List ℕ) (halt : Halt) (returned : ℕ) → i < size live.run → Halted (RefusesHeaders headers) halt → (halt ≡ halts.OutOfMemory → headers ≢ []) → halt ≢ halts.Read
    → returned ≡ halt_status halt → Reports live live i status headers body returned
unmade live i status headers body (halts.Refused refusal) returned within refused memory read is = Refused (refusals.printed refusal) within refused is refl
unmade live i status headers body halts.OutOfMemory returned within refused memory read is = OutOfMemory within (memory refl) is refl
unmade live i status headers body halts.Read returned within refused memory read is = absurd (read refl)

pub returns-in-Ok : goal.returns-in-Ok
returns-in-Ok c = Taken c.in-Ok.outcome (search rules) c.in-Ok.ensures.some c.take_body.ensures

pub returns-in-Err : goal.returns-in-Err
returns-in-Err c = unmade c.args.live.now c.args.position c.args.status c.args.headers.now c.args.body.now c.in-Err.halt c.of_halt.result (search rules) c.in-Err.ensures.refused (λ same. c.in-Err.ensures.memory (ap Err same)) (λ same. c.in-Err.ensures.read (ap Err same)) c.of_halt.ensures
