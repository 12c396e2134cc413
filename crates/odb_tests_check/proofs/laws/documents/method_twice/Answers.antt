use Rattle.odb_names.specs.Methods.{Names}
use Rattle.odb_testing.proofs.ReadingLemmas.{one_found}
use Rattle.odb_tests_check.proofs.laws.documents.method_twice.Goals as goal

pub returns : goal.returns
returns c = one_found (λ m. m) (Names c.args.text.now) (c.one_reading.ensures.method c.args.text.now) c.method_of.result c.method_of-2.result c.method_of.ensures c.method_of-2.ensures
