-- The rules of an outcome and the faults of a document of outcomes: their numbers and names, and what is printed of them.
use Rattle.std.specs.Prelude.{ℕ, List, Option, Some, None, codes}
use Rattle.odb_doc.specs.declared.fault.Place.TheVariants as places
use Rattle.odb_doc.specs.declared.recorded.outcome_fault.OutcomeRule.{OutcomeRule}
use Rattle.odb_doc.specs.declared.recorded.outcome_fault.OutcomeRule.TheVariants.{BadOutcomes, OutcomeTwice, BadStatus, NotWhole}
use Rattle.odb_doc.specs.declared.recorded.outcome_fault.OutcomeFault.{OutcomeFault}
use Rattle.odb_doc.specs.declared.recorded.outcome_fault.OutcomeFault.TheVariants as faults
use Rattle.odb_doc.specs.Refusals.{Printed, fault_of}

-- the number in the code, and the name
abbrev pub rule_label : OutcomeRule → ℕ × List ℕ
rule_label BadOutcomes = (60, codes "BadOutcomes")
rule_label OutcomeTwice = (61, codes "OutcomeTwice")
rule_label BadStatus = (62, codes "BadStatus")
rule_label NotWhole = (63, codes "NotWhole")

abbrev pub rule_number : OutcomeRule → ℕ
rule_number rule = (rule_label rule).0

-- the document as a whole and an outcome of a bad shape have one code
abbrev pub outcome_row : OutcomeFault → Option Printed
outcome_row faults.Document = Some (fault_of (rule_label BadOutcomes) places.Outcomes)
outcome_row (faults.Outcome at rule) = Some (fault_of (rule_label rule) (places.Outcome at))
outcome_row faults.OutOfMemory = None
