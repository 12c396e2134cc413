-- Which fault of names is reported: the least by phase, position and number.
use Rattle.std.specs.Prelude.{List}
use Rattle.odb_doc.specs.LeastRules.{NoneBroken, IsFirstByPhase}
use Rattle.odb_doc.specs.batch.Records.{Record}
use Rattle.odb_check.specs.FaultTable.{CheckFault, number, phase}
use Rattle.odb_doc.specs.declared.rule_fault.RuleFault.TheVariants as faults
use Rattle.odb_check.specs.NameFaults.{IsBrokenAt}

-- no rule is broken anywhere
abbrev pub HasGoodNames : List Record → Type 0
HasGoodNames rs = NoneBroken (λ rule i. IsBrokenAt rule rs i)

-- the fault is the least one of the names. Out of memory says nothing about them.
abbrev pub RefusesNames : CheckFault → List Record → Type 0
RefusesNames (faults.Broken at rule) rs = IsFirstByPhase phase number (λ rule i. IsBrokenAt rule rs i) at rule
RefusesNames faults.OutOfMemory rs = Unit {0}
