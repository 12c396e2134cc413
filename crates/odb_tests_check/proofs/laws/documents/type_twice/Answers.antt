use Rattle.odb_doc.specs.batch.MediaTypes.{is_in_type}
use Rattle.odb_tests_check.proofs.laws.documents.type_twice.Goals as goal

pub returns : goal.returns
returns c = c.one_reading.ensures.run is_in_type c.args.value.now c.type_in.result.0.now c.type_in.result.1.now c.type_in-2.result.0.now c.type_in-2.result.1.now c.type_in.ensures c.type_in-2.ensures
