-- Statuses that no finished run answers, rule by rule (OData JSON Format 4.01, sections 19.1, 19.4 and 19.5; OData Protocol
-- 4.01, section 11.7), and what is printed of them.
use Rattle.std.specs.Prelude.{◌≡◌, ◌≢◌, ◌<◌, ℕ, Bool, false, List, length, slice_index_or, Option, IsTrue, codes}
use Rattle.odb_doc.specs.LeastRules.{IsFirst}
use Rattle.odb_doc.specs.Refusals.{Printed, fault_at}
use Rattle.odb_doc.specs.Statuses.{is_success, is_status}
use Rattle.odb_doc.specs.declared.fault.Place.TheVariants as places
use Rattle.odb_check.specs.PlanGraph.{PlanGraph, unit_of}
use Rattle.odb_sched.specs.run.Possible.{CanHaveStarted, IsPossible}
use Rattle.odb_sched.specs.run.PossibleLive.{CanHaveStartedLive, IsPossibleLive}
use Rattle.odb_reply.specs.declared.strictness.Strictness.{Strictness}
use Rattle.odb_reply.specs.declared.strictness.Strictness.TheVariants.{Requests, Units}
use Rattle.odb_reply.specs.declared.status_fault.StatusRule.{StatusRule}
use Rattle.odb_reply.specs.declared.status_fault.StatusRule.TheVariants.{NotFinal, PartialGroup, NotStarted}
use Rattle.odb_doc.specs.RuleFaults.{fault_row}
use Rattle.odb_doc.specs.declared.rule_fault.RuleFault.{RuleFault}
use Rattle.odb_doc.specs.declared.rule_fault.RuleFault.TheVariants as faults

-- the status at each position
abbrev pub status_at : List ℕ → ℕ → ℕ
status_at statuses i = slice_index_or statuses i 0

-- a success, though a member of the same unit has none
pub record IsPartial (plan : PlanGraph) (statuses : ℕ → ℕ) (i : ℕ) : Type 0 where
  pub success : IsTrue (is_success (statuses i))
  pub member : ℕ
  pub within : member < length plan.units
  pub same : unit_of plan member ≡ unit_of plan i
  pub fails : ¬ IsTrue (is_success (statuses member))

-- these requests can have started: one by one, or with units that were sent as one
abbrev pub CanHaveStartedBy : Strictness → PlanGraph → (ℕ → ℕ) → (ℕ → Bool) → Type 0
CanHaveStartedBy Requests = CanHaveStarted
CanHaveStartedBy Units = CanHaveStartedLive

-- some finished run answers these statuses: one by requests alone, or one in which units may be sent as one
abbrev pub IsPossibleBy : Strictness → PlanGraph → (ℕ → ℕ) → Type 0
IsPossibleBy Requests = IsPossible
IsPossibleBy Units = IsPossibleLive

-- not 424, though the request is in no set of requests that can have started
abbrev pub IsOfUnstarted : Strictness → PlanGraph → (ℕ → ℕ) → ℕ → Type 0
IsOfUnstarted by plan statuses i = (statuses i ≢ 424) × ((started : ℕ → Bool) → CanHaveStartedBy by plan statuses started → started i ≡ false)

-- the status of the request at a position breaks the rule
abbrev pub BreaksStatus : Strictness → PlanGraph → (ℕ → ℕ) → StatusRule → ℕ → Type 0
BreaksStatus by plan statuses NotFinal i = (i < length plan.units) × ¬ IsTrue (is_status (statuses i))
BreaksStatus by plan statuses PartialGroup i = (i < length plan.units) × IsPartial plan statuses i
BreaksStatus by plan statuses NotStarted i = (i < length plan.units) × IsOfUnstarted by plan statuses i

-- the number in the code, and the name
abbrev pub status_label : StatusRule → ℕ × List ℕ
status_label NotFinal = (76, codes "NotFinal")
status_label PartialGroup = (77, codes "PartialGroup")
status_label NotStarted = (78, codes "NotStarted")

abbrev pub status_number : StatusRule → ℕ
status_number rule = (status_label rule).0

-- what is printed of the rule, broken at this position
abbrev pub status_rule_row : StatusRule → ℕ → Printed
status_rule_row rule at = fault_at (status_label rule).0 (status_label rule).1 (places.Request at)

abbrev pub StatusFault : Type 0
StatusFault = RuleFault StatusRule

abbrev pub status_row : StatusFault → Option Printed
status_row = fault_row status_rule_row

-- the fault is the least by position and number. Out of memory says nothing.
abbrev pub RefusesStatuses : StatusFault → Strictness → PlanGraph → (ℕ → ℕ) → Type 0
RefusesStatuses (faults.Broken at rule) by plan statuses = IsFirst status_number (BreaksStatus by plan statuses) at rule
RefusesStatuses faults.OutOfMemory by plan statuses = Unit {0}
