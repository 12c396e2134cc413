-- For invariants and private clauses: what the walks over the requests find, that over identifiers and groups, and
-- that over names and references.
use Rattle.std.specs.Prelude.{◌≡◌, ℕ, List}
use Rattle.std.specs.List.{filter_map}
use Rattle.odb_doc.specs.LeastRules.{NoneBroken, IsLeast}
use Rattle.odb_doc.specs.LeastRules as least_rules
use Rattle.odb_doc.specs.batch.Records.{Record}
use Rattle.odb_check.specs.declared.fault.NameRule.{NameRule}
use Rattle.odb_check.specs.FaultTable.{CheckFault, number, phase}
use Rattle.odb_doc.specs.declared.rule_fault.RuleFault.TheVariants as faults
use Rattle.odb_check.specs.declared.need.Need.{Need}
use Rattle.odb_check.specs.NameFaults.{IsBrokenAt}
use Rattle.odb_check.specs.Needs.{further_names, need_of}
use Rattle.odb_check.specs.Positions.{names_at, reference_at}

-- the rule belongs to the phase, and is broken at i
abbrev pub BreaksIn : ℕ → List Record → NameRule → ℕ → Type 0
BreaksIn ph rs rule i = least_rules.BreaksIn phase (λ rule i. IsBrokenAt rule rs i) ph rule i

-- no identifier and no group breaks a rule
abbrev pub HasValidIds : List Record → Type 0
HasValidIds rs = NoneBroken (BreaksIn 3 rs)

-- no rule of the phase is broken at i
abbrev pub BreaksNone : ℕ → List Record → ℕ → Type 0
BreaksNone ph rs i = (rule : NameRule) → ¬ BreaksIn ph rs rule i

-- the rule is the first of its phase that is broken at i
abbrev pub BreaksFirst : ℕ → List Record → ℕ → NameRule → Type 0
BreaksFirst ph rs i rule = IsLeast number (λ other. BreaksIn ph rs other i) rule

-- the fault is that of i. Out of memory says nothing about it.
abbrev pub FailsAt : ℕ → List Record → ℕ → CheckFault → Type 0
FailsAt ph rs i (faults.Broken at rule) = (at ≡ i) × BreaksFirst ph rs i rule
FailsAt ph rs i faults.OutOfMemory = Unit {0}

-- what the names in `dependsOn` resolve to
abbrev pub named_at : List Record → ℕ → List Need
named_at rs i = filter_map (need_of rs) (names_at rs i)

-- what the reference resolves to, unless it is among the names
abbrev pub further_needs : List Record → ℕ → List Need
further_needs rs i = filter_map (need_of rs) (further_names (names_at rs i) (reference_at rs i))
