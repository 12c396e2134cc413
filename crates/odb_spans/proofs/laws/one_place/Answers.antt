use Rattle.odb_spans.proofs.OnePlaceLemmas.{one-list}
use Rattle.odb_spans.proofs.laws.one_place.Goals as goal

pub returns : goal.returns
returns c = λ list name document d spans others json. one-list list name document d json spans others
