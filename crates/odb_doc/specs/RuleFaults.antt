-- What is printed of a rule that is broken at a position.
use Rattle.std.specs.Prelude.{ℕ, Option, Some, None}
use Rattle.odb_doc.specs.Refusals.{Printed}
use Rattle.odb_doc.specs.declared.rule_fault.RuleFault.{RuleFault}
use Rattle.odb_doc.specs.declared.rule_fault.RuleFault.TheVariants.{Broken, OutOfMemory}

-- what the rule prints at the position; out of memory has no number
abbrev pub fault_row : {R : Type 0} → (R → ℕ → Printed) → RuleFault R → Option Printed
fault_row row (Broken at rule) = Some (row rule at)
fault_row row OutOfMemory = None
