use Rattle.std.proofs.Common.{◌≡◌, List, IsSome, rules}
use Rattle.std.proofs.lemmas.Bool.{false≢true}
use Rattle.odb_doc.proofs.OneLeast.{one_by_phase}
use Rattle.odb_doc.specs.batch.Records.{Record}
use Rattle.odb_check.specs.declared.fault.NameRule.{NameRule}
use Rattle.odb_check.specs.FaultTable.{CheckFault, number, phase, check_row}
use Rattle.odb_doc.specs.declared.rule_fault.RuleFault.TheVariants as faults
use Rattle.odb_check.specs.LeastNameFault.{RefusesNames}
use Rattle.odb_check.specs.NameFaults.{IsBrokenAt}
use Rattle.odb_check.proofs.laws.one_fault.Goals as goal

same_rule : (rule other : NameRule) → number rule ≡ number other → rule ≡ other
same_rule rule other same = search rules

only_fault : (rs : List Record) (fault other : CheckFault) → IsSome (check_row fault) → IsSome (check_row other) → RefusesNames fault rs → RefusesNames other rs → fault ≡ other
only_fault rs (faults.Broken at rule) (faults.Broken other_at other) numbered also one two =
    let same : (at ≡ other_at) × (rule ≡ other) = one_by_phase phase number (λ r i. IsBrokenAt r rs i) same_rule at other_at rule other one two in cc
only_fault rs (faults.Broken at rule) faults.OutOfMemory numbered also one two = absurd (false≢true also)
only_fault rs faults.OutOfMemory other numbered also one two = absurd (false≢true numbered)

pub returns-clause-one : goal.returns-clause-one
returns-clause-one c = only_fault
