-- Why the rest of a batch cannot be made, and what is printed of it.
use Rattle.std.specs.Prelude.{◌≡◌, ◌⊎◌, ◌<◌, ℕ, Bool, List, Option, None, codes}
use Rattle.odb_doc.specs.Refusals.{Printed, fault_at}
use Rattle.odb_doc.specs.declared.fault.Place.TheVariants as places
use Rattle.odb_doc.specs.batch.Records.{Record}
use Rattle.odb_doc.specs.RuleFaults.{fault_row}
use Rattle.odb_doc.specs.declared.rule_fault.RuleFault.{RuleFault}
use Rattle.odb_send.specs.declared.fault.RestRule.{RestRule}
use Rattle.odb_doc.specs.declared.rule_fault.RuleFault.TheVariants as faults
use Rattle.odb_send.specs.declared.fault.RestRule.TheVariants.{NoETag, NoLocation}
use Rattle.odb_send.specs.Answers.{Answer}
use Rattle.odb_send.specs.Rests.{Leaves, LeavesTag, Moves}

-- the URL at i refers to a request that is not in the rest, and no Location makes another URL of it
pub record LacksLocation (rs : List Record) (kept : List Bool) (answers : ℕ → Answer) (i : ℕ) : Type 0 where
  pub position : ℕ
  pub leaves : Leaves rs kept i position
  pub none : (url : List ℕ) → ¬ Moves rs kept answers i url

-- this header at i refers to the ETag of a request that is not in the rest, and none is recorded
pub record LacksTag (rs : List Record) (kept : List Bool) (answers : ℕ → Answer) (name : List ℕ) (i : ℕ) : Type 0 where
  pub position : ℕ
  pub leaves : LeavesTag rs kept name i position
  pub none : (answers position).etag ≡ None

-- `If-Match` or `If-None-Match` does
abbrev pub LacksETag : List Record → List Bool → (ℕ → Answer) → ℕ → Type 0
LacksETag rs kept answers i = LacksTag rs kept answers (codes "if-match") i ⊎ LacksTag rs kept answers (codes "if-none-match") i

-- the request at i has no text in the rest
abbrev pub Lacks : List Record → List Bool → (ℕ → Answer) → ℕ → Type 0
Lacks rs kept answers i = LacksLocation rs kept answers i ⊎ LacksETag rs kept answers i

-- by this rule: the Location is asked first
abbrev pub Breaks : RestRule → List Record → List Bool → (ℕ → Answer) → ℕ → Type 0
Breaks NoLocation rs kept answers i = LacksLocation rs kept answers i
Breaks NoETag rs kept answers i = LacksETag rs kept answers i × ¬ LacksLocation rs kept answers i

abbrev pub RestFault : Type 0
RestFault = RuleFault RestRule

-- the fault is at the first position that lacks a Location or an ETag. Out of memory says nothing.
abbrev pub RefusesRest : RestFault → List Record → List Bool → (ℕ → Answer) → Type 0
RefusesRest (faults.Broken at rule) rs kept answers = Breaks rule rs kept answers at × ((i : ℕ) → i < at → ¬ Lacks rs kept answers i)
RefusesRest faults.OutOfMemory rs kept answers = Unit {0}

-- what is printed of the rule, broken at this position
abbrev pub rule_row : RestRule → ℕ → Printed
rule_row NoLocation at = fault_at 90 (codes "NoLocation") (places.Request at)
rule_row NoETag at = fault_at 91 (codes "NoETag") (places.Request at)

-- what is printed of a fault
abbrev pub rest_row : RestFault → Option Printed
rest_row = fault_row rule_row
