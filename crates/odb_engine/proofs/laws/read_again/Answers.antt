use Rattle.odb_engine.proofs.ReadAgainLemmas.{AreReadings, replay-again, run-again}
use Rattle.odb_engine.proofs.laws.read_again.Goals as goal

pub returns : goal.returns
returns c =
    let law : AreReadings = record { held = c.every_value.ensures.held; nests = c.every_value.ensures.nests; outcomes = c.one_record.ensures.recordable; events = c.one_history.ensures.recordable } in
    record { replay = replay-again law; run = run-again law }
