use Rattle.odb_doc.specs.batch.Shapes.{elements}
use Rattle.odb_doc.proofs.BatchLemmas.{one_batch}
use Rattle.odb_doc.proofs.laws.one_batch.Goals as goal

pub returns : goal.returns
returns c = λ value batch other one two.
    one_batch (record { front = c.one_reading.ensures.front; method = c.one_reading.ensures.method }) (elements value) batch other one two
