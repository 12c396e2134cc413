use Rattle.std.proofs.Common.{◌≡◌, ◌∙◌, List, sym, IsSome}
use Rattle.odb_doc.specs.batch.Records.{Record}
use Rattle.odb_doc.specs.batch.Batches.{records}
use Rattle.odb_check.specs.FaultTable.{check_row}
use Rattle.odb_check.specs.LeastNameFault.{HasGoodNames, RefusesNames}
use Rattle.odb_check.specs.Plans.{plan_records}
use Rattle.odb_testing.proofs.ReadingLemmas.{one_reading}
use Rattle.odb_tests_check.proofs.laws.checks.plan_twice.Goals as goal

pub returns : goal.returns
returns c =
    let law = c.one_fault.ensures in
    one_reading plan_records HasGoodNames (λ (requests read : List Record). read ≡ requests) (λ f. IsSome (check_row f)) RefusesNames (λ requests x y p q. p ∙ sym q) law.one law.none (records c.args.batch.now) c.plan_of.result c.plan_of-2.result c.plan_of.ensures c.plan_of-2.ensures
