use Rattle.odb_spans.proofs.OnePairLemmas.{one-pair}
use Rattle.odb_spans.proofs.laws.one_pair.Goals as goal

pub returns : goal.returns
returns c = one-pair
