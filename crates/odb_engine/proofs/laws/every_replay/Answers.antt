use Rattle.odb_sched.specs.run.Choosing.{AllowsOrder}
use Rattle.odb_engine.proofs.ReadAgainLemmas.{AreReadings}
use Rattle.odb_engine.proofs.ReplayedLemmas.{replay-runs}
use Rattle.odb_engine.proofs.laws.every_replay.Goals as goal

pub returns : goal.returns
returns c =
    let law : AreReadings = record { held = c.every_value.ensures.held; nests = c.every_value.ensures.nests; outcomes = c.one_record.ensures.recordable; events = c.one_history.ensures.recordable } in
    λ order. replay-runs law (AllowsOrder order)
