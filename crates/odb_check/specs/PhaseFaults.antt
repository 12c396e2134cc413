-- The faults of one phase, while a list of them is made: for private clauses, nothing to believe.
use Rattle.std.specs.Prelude.{ℕ, List}
use Rattle.odb_doc.specs.ListsBelow.{ListsBelow}
use Rattle.odb_doc.specs.batch.Records.{Record}
use Rattle.odb_check.specs.FaultTable.{CheckFault}
use Rattle.odb_doc.specs.declared.rule_fault.RuleFault.TheVariants as faults
use Rattle.odb_check.specs.AllNameFaults.{name_place}
use Rattle.odb_check.specs.Walks.{BreaksIn}

-- the fault is one of this phase
abbrev pub IsPhaseFault : ℕ → List Record → CheckFault → Type 0
IsPhaseFault ph rs (faults.Broken at rule) = BreaksIn ph rs rule at
IsPhaseFault ph rs faults.OutOfMemory = ⊥

-- the list has the faults of the phase before this position and number
abbrev pub ListsPhase : ℕ → List Record → ℕ × ℕ → List CheckFault → Type 0
ListsPhase ph rs bound faults = ListsBelow name_place (IsPhaseFault ph rs) bound faults
