use Rattle.odb_spans.proofs.OneElementLemmas.{one-element}
use Rattle.odb_spans.proofs.laws.one_element.Goals as goal

pub returns : goal.returns
returns c = one-element
