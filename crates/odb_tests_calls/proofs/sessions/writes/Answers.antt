-- What a session writes is accepted.
use Rattle.std.proofs.Common.{◌≤◌, Some, arith, length}
use Rattle.odb_doc.specs.Documents.{most_bytes}
use Rattle.odb_reply.specs.declared.strictness.Strictness.TheVariants.{Units}
use Rattle.odb_tests_calls.specs.Calls.{answered}
use Rattle.odb_tests_calls.proofs.ResponseLemmas.{written}
use Rattle.odb_tests_calls.proofs.sessions.writes.Goals as goal

pub returns : goal.returns
returns c =
    let live = c.answers-returned.new.live in
    let (text, counted, responds) = written live _ _ _ _ c.give_response.ensures.text c.if-give_response-ne0.false in
    let short : length text ≤ most_bytes = omega (arith, counted, c.if-count-gt1000.false) in (
      text,
      counted,
      c.every_session.ensures.matched c.args.policy (Some Units) c.args.policy.mode c.args.batch.now c.args.events.now text c.args.live.now live (answered c.answers-returned.result)
          c.requires c.answers-returned.ensures responds short tt,
    )
