use Rattle.odb_engine.proofs.SecondLemmas.{one_document}
use Rattle.odb_engine.proofs.laws.one_document.Goals as goal

pub returns : goal.returns
returns c = one_document
