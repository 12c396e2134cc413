-- Where each rule of an outcome is broken, and which fault of a document of outcomes is reported: that of the whole,
-- and else the least by position and number.
use Rattle.std.specs.Prelude.{ℕ, List, IsSomeAnd, Contains}
use Rattle.serde_json.specs.Data.{Data}
use Rattle.odb_doc.specs.declared.recorded.outcome_fault.OutcomeRule.{OutcomeRule}
use Rattle.odb_doc.specs.declared.recorded.outcome_fault.OutcomeRule.TheVariants as rules
use Rattle.odb_doc.specs.declared.recorded.outcome_fault.OutcomeFault.{OutcomeFault}
use Rattle.odb_doc.specs.declared.recorded.outcome_fault.OutcomeFault.TheVariants as faults
use Rattle.odb_doc.specs.batch.Bodies.{body_of}
use Rattle.odb_doc.specs.LeastRules.{BreaksAt, NoneBroken, IsFirst}
use Rattle.odb_doc.specs.recorded.OutcomeFaults.{rule_number}
use Rattle.odb_doc.specs.recorded.Outcomes.{IsOutcomesObject, IsOutcomeObject, IsStatus, elements, id_of, status_of, ids}
use Rattle.odb_doc.specs.WholeNumbers.{IsWhole}

-- the rule is broken by an element after others with these ids
abbrev pub BreaksOutcome : OutcomeRule → List (List ℕ) → Data → Type 0
BreaksOutcome rules.BadOutcomes before d = ¬ IsOutcomeObject d
BreaksOutcome rules.OutcomeTwice before d = IsSomeAnd (id_of d) (Contains before)
BreaksOutcome rules.BadStatus before d = IsSomeAnd (status_of d) (λ status. ¬ IsStatus status)
BreaksOutcome rules.NotWhole before d = IsSomeAnd (body_of d) (λ body. ¬ IsWhole body)

-- the rule is broken by the outcome at the position
abbrev pub BreaksOutcomeAt : List Data → OutcomeRule → ℕ → Type 0
BreaksOutcomeAt ds = BreaksAt (λ rule before d. BreaksOutcome rule (ids before) d) ds

-- the rule is broken at the position, none with a smaller number is, and none at all before
abbrev pub IsLeastOutcomeRule : List Data → ℕ → OutcomeRule → Type 0
IsLeastOutcomeRule ds at rule = IsFirst rule_number (BreaksOutcomeAt ds) at rule

-- no rule is broken anywhere
abbrev pub AreOutcomes : List Data → Type 0
AreOutcomes ds = NoneBroken (BreaksOutcomeAt ds)

-- a document of outcomes without a fault
abbrev pub IsOutcomesDocument : Data → Type 0
IsOutcomesDocument d = IsOutcomesObject d × AreOutcomes (elements d)

-- the fault is the least of the document. Out of memory may come in place of any, but see the clauses `memory`.
abbrev pub RefusesOutcomes : OutcomeFault → Data → Type 0
RefusesOutcomes faults.Document d = ¬ IsOutcomesObject d
RefusesOutcomes (faults.Outcome at rule) d = IsOutcomesObject d × IsLeastOutcomeRule (elements d) at rule
RefusesOutcomes faults.OutOfMemory d = Unit {0}
