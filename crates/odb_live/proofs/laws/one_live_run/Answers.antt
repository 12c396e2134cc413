use Rattle.odb_engine.proofs.LawLemmas.{AreFunctional}
use Rattle.odb_live.proofs.LiveLawLemmas.{live-next, live-text, one-opening}
use Rattle.odb_engine.proofs.RunLawLemmas.{AreOneHistory, HaveOneCause}
use Rattle.odb_live.proofs.laws.one_live_run.Goals as goal

pub returns : goal.returns
returns c =
    let law : AreFunctional = record {
      one_shape = c.one_fault.ensures.one;
      no_shape = c.one_fault.ensures.none;
      one_batch = c.one_batch.ensures;
      one_name = c.one_fault-2.ensures.one;
      no_name = c.one_fault-2.ensures.none;
    } in
    let causes : HaveOneCause = record { one_refusal = c.every_cause.ensures.one_refusal; one_unknown = c.every_cause.ensures.one_unknown } in
    let history : AreOneHistory = record { one_fault = c.one_history.ensures.one; no_fault = c.one_history.ensures.none; one_reading = c.one_history.ensures.events } in
    record {
      text = λ policy form batch events text different live ended other. live-text law causes history policy batch events live form ended other text different;
      goes_on = λ policy batch events more live event. live-next law history policy batch events more live event;
      opening = one-opening law causes history;
    }
