use Rattle.odb_text.proofs.QuotedLemmas.{one-string}
use Rattle.odb_text.proofs.laws.every_label.Goals as goal

pub returns : goal.returns
returns c = one-string
