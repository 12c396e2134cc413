use Rattle.std.proofs.Common.{string_bytes}
use Rattle.std.proofs.lemmas.List.{take_all}
use Rattle.odb_text.proofs.FaultLemmas.{listed-end, listed-next, no_fault, objects, some_listed}
use Rattle.odb_text.proofs.faults.faults_json.Goals as goal

pub loop-fault-preserved : goal.loop-fault-preserved
loop-fault-preserved c = record {
  text = listed-next c.args.faults.now c.loop-fault.fault-index _ (string_bytes c.loop-fault.text) _ c.loop-fault-test.true c.loop-fault.invariant.text (rw c.loop-fault.invariant.later at c.in_ok-push_listed.ensures);
  later = some_listed c.args.faults.now c.loop-fault.fault-index no_fault c.loop-fault-test.true;
}

pub returns : goal.returns
returns c =
    let text = rw (take_all c.loop-fault.fault-index c.args.faults.now c.loop-fault-test.false) at c.loop-fault.invariant.text in
    listed-end (objects c.args.faults.now) (string_bytes c.loop-fault.text) (string_bytes c.push_str.new.self) text c.in_ok-push_str.ensures.bytes
