use Rattle.odb_doc.proofs.SomeBatchLemmas.{some_batch}
use Rattle.odb_doc.proofs.laws.some_batch.Goals as goal

pub returns : goal.returns
returns c = some_batch c.one_reading.ensures.front
