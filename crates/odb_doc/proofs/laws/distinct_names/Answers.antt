use Rattle.odb_doc.proofs.NameLemmas.{fold-with_name-nil}
use Rattle.odb_doc.proofs.laws.distinct_names.Goals as goal

pub returns : goal.returns
returns c = fold-with_name-nil
