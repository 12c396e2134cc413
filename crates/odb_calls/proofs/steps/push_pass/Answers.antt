use Rattle.std.proofs.Common.{IfErr}
use Rattle.odb_engine.specs.Halts.{Halted}
use Rattle.odb_engine.proofs.EngineLemmas.{exit-error}
use Rattle.odb_calls.specs.Steps.{RefusesOne}
use Rattle.odb_calls.proofs.StepLemmas.{adds-more, refused-at}
use Rattle.odb_calls.proofs.steps.push_pass.Goals as goal

pub returns-in_err-push_reply-clause-refused : goal.returns-in_err-push_reply-clause-refused
returns-in_err-push_reply-clause-refused c =
    let document = c.args.document.now in
    let replies = c.args.replies.now in
    exit-error (λ r. IfErr r (Halted (RefusesOne document replies))) _ _ c.from_residual.ensures.1 (refused-at document replies c.loop-k.k _ _ c.loop-k-test.true c.in_err-push_reply.ensures.refused)

pub loop-k-preserved : goal.loop-k-preserved
loop-k-preserved c = adds-more c.args.document.now c.args.pass c.args.replies.now c.loop-k.k _ c.args.steps.now.items c.loop-k.steps.items c.push_reply.new.steps.items c.loop-k-test.true c.loop-k.invariant c.in_ok-push_reply.ensures.steps
