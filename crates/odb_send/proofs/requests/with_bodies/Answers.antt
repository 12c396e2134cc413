-- The parts of all requests.
use Rattle.std.proofs.Common.{None, ◌<◌, length, string_bytes, arith}
use Rattle.odb_check.specs.Plans.{plan_records}
use Rattle.odb_send.specs.Parts.{HasParts}
use Rattle.odb_send.specs.declared.parts.RequestParts.{RequestParts}
use Rattle.odb_send.proofs.LawLemmas.{slice_get-some}
use Rattle.odb_send.proofs.PairLemmas.{next_pair, next_value}
use Rattle.odb_send.proofs.PartLemmas.{kept-parts}
use Rattle.odb_send.proofs.requests.with_bodies.Goals as goal

pub loop-i-preserved : goal.loop-i-preserved
loop-i-preserved c =
    let batch = plan_records c.args.plan.now in
    let i = c.loop-i.i in
    let found = c.loop-i.parts.items in
    let parts = c.in_ok-request.request in
    let old = string_bytes c.loop-i.text in
    let new = string_bytes c.push_request.new.text in
    let within : i < length batch = omega (arith, c.loop-i-test.true, c.len-i-end.ensures.count) in
    let has_body : i < length c.args.bodies.now = omega (arith, within, c.requires) in
    let (request, here) = slice_get-some batch i within in
    record {
      parts = rw c.in_ok-push.ensures.items (next_pair (HasParts batch old) (HasParts batch new) (λ r p. kept-parts batch old new r p c.in_ok-request.ensures.text) batch found i request parts c.loop-i.invariant.parts here (c.in_ok-request.ensures.parts request here));
      bodies = rw c.in_ok-push.ensures.items (next_value (λ (p : RequestParts). p.body) found parts c.args.bodies.now i None has_body c.in_ok-request.ensures.body c.loop-i.invariant.bodies);
    }
