-- The parts of all responses.
use Rattle.std.proofs.Common.{None, ◌<◌, length, string_bytes, arith}
use Rattle.odb_reply.specs.ResponseDocuments.{entries}
use Rattle.odb_send.specs.ResponseParts.{HasResponseParts}
use Rattle.odb_send.specs.declared.responses.ResponseParts.{ResponseParts}
use Rattle.odb_send.proofs.PairLemmas.{next_pair, next_value}
use Rattle.odb_send.proofs.ResponseLemmas.{kept-parts}
use Rattle.odb_send.proofs.responses.with_members.Goals as goal

pub loop-i-preserved : goal.loop-i-preserved
loop-i-preserved c =
    let all = entries c.args.responses.now in
    let i = c.loop-i.i in
    let found = c.loop-i.parts.items in
    let response = c.in_ok-response.response in
    let old = string_bytes c.loop-i.text in
    let new = string_bytes c.push_response.new.text in
    let within : i < length all = omega (arith, c.loop-i-test.true, c.len-i-end.ensures) in
    let has_headers : i < length c.args.headers.now = omega (arith, within, c.requires.headers) in
    let has_body : i < length c.args.bodies.now = omega (arith, within, c.requires.bodies) in
    record {
      parts = rw c.in_ok-push.ensures.items (next_pair (HasResponseParts old) (HasResponseParts new) (λ e p. kept-parts old new e p c.in_ok-response.ensures.text) all found i _ response c.loop-i.invariant.parts c.entry.ensures c.in_ok-response.ensures.parts);
      headers = rw c.in_ok-push.ensures.items (next_value (λ (p : ResponseParts). p.headers) found response c.args.headers.now i None has_headers c.in_ok-response.ensures.headers c.loop-i.invariant.headers);
      bodies = rw c.in_ok-push.ensures.items (next_value (λ (p : ResponseParts). p.body) found response c.args.bodies.now i None has_body c.in_ok-response.ensures.body c.loop-i.invariant.bodies);
    }
