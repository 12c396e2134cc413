-- The rules on the names of a batch and their faults: numbers, phases and names, and what is printed of them.
use Rattle.std.specs.Prelude.{◌/◌, ℕ, List, Option, codes}
use Rattle.odb_doc.specs.Refusals.{Printed, fault_of}
use Rattle.odb_doc.specs.declared.fault.Place.TheVariants as places
use Rattle.odb_doc.specs.RuleFaults.{fault_row}
use Rattle.odb_doc.specs.declared.rule_fault.RuleFault.{RuleFault}
use Rattle.odb_check.specs.declared.fault.NameRule.{NameRule}
use Rattle.odb_check.specs.declared.fault.NameRule.TheVariants.{IdTwice, IdIsGroup, GroupSplit, UnknownName, ForwardName, OwnGroup, GroupNotListed, UnknownReference, ForwardReference, ReferenceNotListed}

-- the number in the code, and the name
abbrev pub rule_label : NameRule → ℕ × List ℕ
rule_label IdTwice = (30, codes "IdTwice")
rule_label IdIsGroup = (31, codes "IdIsGroup")
rule_label GroupSplit = (32, codes "GroupSplit")
rule_label UnknownName = (40, codes "UnknownName")
rule_label ForwardName = (41, codes "ForwardName")
rule_label OwnGroup = (42, codes "OwnGroup")
rule_label GroupNotListed = (43, codes "GroupNotListed")
rule_label UnknownReference = (44, codes "UnknownReference")
rule_label ForwardReference = (45, codes "ForwardReference")
rule_label ReferenceNotListed = (46, codes "ReferenceNotListed")

abbrev pub number : NameRule → ℕ
number rule = (rule_label rule).0

-- after the document and the shapes come identifiers and groups, and then names and references
abbrev pub phase : NameRule → ℕ
phase rule = number rule / 10

-- what is printed of the rule, broken at this position
abbrev pub rule_row : NameRule → ℕ → Printed
rule_row rule at = fault_of (rule_label rule) (places.Request at)

abbrev pub CheckFault : Type 0
CheckFault = RuleFault NameRule

abbrev pub check_row : CheckFault → Option Printed
check_row = fault_row rule_row
