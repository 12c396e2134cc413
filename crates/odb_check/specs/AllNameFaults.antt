-- All faults of the names of a batch: those of the first phase that has any.
use Rattle.std.specs.Prelude.{◌<◌, ℕ, List}
use Rattle.odb_doc.specs.AllFaults.{ListsAll}
use Rattle.odb_doc.specs.LeastRules.{BreaksIn, NoneBroken}
use Rattle.odb_doc.specs.batch.Records.{Record}
use Rattle.odb_check.specs.FaultTable.{CheckFault, number, phase}
use Rattle.odb_doc.specs.declared.rule_fault.RuleFault.TheVariants as faults
use Rattle.odb_check.specs.NameFaults.{IsBrokenAt}

-- the position and the number of a fault
abbrev pub name_place : CheckFault → ℕ × ℕ
name_place (faults.Broken at rule) = (at, number rule)
name_place faults.OutOfMemory = (0, 0)

-- the rule is broken at the position, and no rule of an earlier phase is broken anywhere
abbrev pub IsNameFault : List Record → CheckFault → Type 0
IsNameFault rs (faults.Broken at rule) = ((ph : ℕ) → ph < phase rule → NoneBroken (BreaksIn phase (λ other i. IsBrokenAt other rs i) ph)) × IsBrokenAt rule rs at
IsNameFault rs faults.OutOfMemory = ⊥

-- the list has all faults of names, each once, in order
abbrev pub AreNameFaults : List Record → List CheckFault → Type 0
AreNameFaults rs faults = ListsAll name_place (IsNameFault rs) faults
