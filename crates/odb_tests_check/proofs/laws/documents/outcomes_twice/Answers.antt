use Rattle.std.proofs.Common.{IsSome}
use Rattle.odb_doc.specs.recorded.OutcomeFaults.{outcome_row}
use Rattle.odb_doc.specs.recorded.OutcomeLists.{entries}
use Rattle.odb_doc.specs.recorded.LeastOutcomeFault.{IsOutcomesDocument, RefusesOutcomes}
use Rattle.odb_doc.specs.recorded.Outcomes.{AreOutcomesOf}
use Rattle.odb_tests_check.proofs.DocumentLemmas.{one_reading_of_bytes}
use Rattle.odb_tests_check.proofs.laws.documents.outcomes_twice.Goals as goal

pub returns : goal.returns
returns c = one_reading_of_bytes entries IsOutcomesDocument AreOutcomesOf (λ f. IsSome (outcome_row f)) RefusesOutcomes c.one_record.ensures.outcomes c.one_record.ensures.one c.one_record.ensures.none c.args.bytes.now c.outcomes_of.result c.outcomes_of-2.result c.outcomes_of.ensures c.outcomes_of-2.ensures
