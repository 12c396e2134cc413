use Rattle.std.proofs.Common.{string_bytes}
use Rattle.odb_text.proofs.FaultLemmas.{line-next}
use Rattle.odb_text.proofs.faults.fault_lines.Goals as goal

pub loop-fault-preserved : goal.loop-fault-preserved
loop-fault-preserved c = line-next c.args.name.now c.args.faults.now c.loop-fault.fault-index _ (string_bytes c.loop-fault.text) _ c.loop-fault-test.true c.loop-fault.invariant c.in_ok-push_line.ensures
