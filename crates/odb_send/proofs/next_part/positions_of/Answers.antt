-- The positions of a part.
use Rattle.std.proofs.Common.{◌<◌, length, sym, arith}
use Rattle.std.proofs.lemmas.List.Elements.{All-push}
use Rattle.odb_check.specs.Plans.{plan_records}
use Rattle.odb_send.specs.Rests.{kept}
use Rattle.odb_send.proofs.NextPartLemmas.{positions_more, positions_same}
use Rattle.odb_send.proofs.next_part.positions_of.Goals as goal
use Rattle.odb_send.proofs.next_part.positions_of.Goals.{then-is_kept+in_ok-push, else-is_kept}

pub loop-i-preserved : goal.loop-i-preserved
loop-i-preserved c =
    let rs = plan_records c.args.plan.now in
    let part = kept c.args.part.now in
    let i = c.loop-i.i in
    let within : i < length rs = omega (arith, c.loop-i-test.true, c.len-i-end.ensures.count) in
    elim c.if-is_kept.branch [
      | then-is_kept+in_ok-push w ↦ rw (w.found-is, w.in_ok-push.ensures.items) (record {
        positions = positions_more rs part i c.loop-i.found.items c.loop-i.invariant.positions (rw c.deref.ensures.value at (sym w.if-is_kept.ensures));
        within = All-push (λ k. k < length rs) c.loop-i.found.items i c.loop-i.invariant.within within;
      })
      | else-is_kept w ↦ rw w.found-is (record {
        positions = positions_same rs part i c.loop-i.found.items c.loop-i.invariant.positions (rw c.deref.ensures.value at (sym w.if-is_kept.ensures));
        within = c.loop-i.invariant.within;
      })
    ]
