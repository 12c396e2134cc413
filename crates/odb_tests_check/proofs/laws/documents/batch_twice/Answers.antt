use Rattle.std.proofs.Common.{IsSome}
use Rattle.serde_json.specs.View.{view}
use Rattle.odb_doc.specs.batch.Records.{IsBatchOf}
use Rattle.odb_doc.specs.batch.Batches.{records}
use Rattle.odb_doc.specs.Faults.{document_row}
use Rattle.odb_doc.specs.batch.LeastFault.{IsLeastFault, IsWellShaped}
use Rattle.odb_testing.proofs.ReadingLemmas.{one_reading}
use Rattle.odb_tests_check.proofs.laws.documents.batch_twice.Goals as goal

pub returns : goal.returns
returns c = one_reading records IsWellShaped IsBatchOf (λ f. IsSome (document_row f)) IsLeastFault c.one_batch.ensures c.one_fault.ensures.one c.one_fault.ensures.none (view c.args.value.now) c.batch_of.result c.batch_of-2.result c.batch_of.ensures c.batch_of-2.ensures
