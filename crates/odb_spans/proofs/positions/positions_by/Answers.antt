use Rattle.odb_spans.proofs.FoundLemmas.{next-stands}
use Rattle.odb_spans.proofs.positions.positions_by.Goals as goal

pub loop-fault-preserved : goal.loop-fault-preserved
loop-fault-preserved c = record {
  counts = c.in_ok-last.ensures.counts;
  stand = next-stands c.args.document.now c.args.faults.now c.loop-fault.fault-index _ c.loop-fault.positions.items _ _ c.loop-fault-test.true c.loop-fault.invariant.stand c.in_ok-last.ensures c.in_ok-push.ensures.items;
}
