use Rattle.odb_engine.proofs.FirstFaultLemmas.{first-least, least-first}
use Rattle.odb_engine.proofs.LawLemmas.{AreFunctional}
use Rattle.odb_engine.proofs.ListLawLemmas.{all-faults-one}
use Rattle.odb_engine.proofs.VerdictLemmas.{accepted-none, listed-least}
use Rattle.odb_engine.proofs.laws.every_verdict.Goals as goal

pub returns : goal.returns
returns c =
    let one = c.one_batch.ensures in
    let law : AreFunctional = record {
      one_shape = c.one_fault.ensures.one;
      no_shape = c.one_fault.ensures.none;
      one_batch = one;
      one_name = c.one_fault-2.ensures.one;
      no_name = c.one_fault-2.ensures.none;
    } in
    record {
      first = λ bytes refusal. (least-first one bytes refusal, first-least bytes refusal);
      exists = accepted-none one c.some_batch.ensures;
      head = λ bytes refusals are. (listed-least one bytes refusals are).0;
      empty = λ bytes refusals are. (listed-least one bytes refusals are).1;
      one = all-faults-one law;
    }
