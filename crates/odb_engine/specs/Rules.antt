-- What is printed of the rules that only an engine can check.
use Rattle.std.specs.Prelude.{codes}
use Rattle.odb_doc.specs.Refusals.{Printed, fault_at}
use Rattle.odb_doc.specs.declared.fault.Place.TheVariants as places
use Rattle.odb_engine.specs.declared.rule.EngineRule.{EngineRule}
use Rattle.odb_engine.specs.declared.rule.EngineRule.TheVariants.{NotPair, Unfinished}

abbrev pub rule_row : EngineRule → Printed
rule_row NotPair = fault_at 7 (codes "NotPair") places.Batch
rule_row Unfinished = fault_at 66 (codes "Unfinished") places.Events
