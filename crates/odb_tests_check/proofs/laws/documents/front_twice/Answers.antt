use Rattle.odb_names.specs.Fronts.{HasFront, form}
use Rattle.odb_testing.proofs.ReadingLemmas.{one_found}
use Rattle.odb_tests_check.proofs.laws.documents.front_twice.Goals as goal

pub returns : goal.returns
returns c = one_found form (HasFront c.args.url.now) (c.one_reading.ensures.front c.args.url.now) c.front_of.result c.front_of-2.result c.front_of.ensures c.front_of-2.ensures
