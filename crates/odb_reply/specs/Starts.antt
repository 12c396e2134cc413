-- For invariants and private clauses: which requests can have started, by a flag for each and two for each unit.
use Rattle.std.specs.Prelude.{◌≡◌, ◌⊎◌, ◌<◌, ◌==◌, ◌&&◌, ◌||◌, ℕ, Bool, true, false, List, length, replicate, slice_index_or}
use Rattle.std.specs.List.{list_all}
use Rattle.odb_doc.specs.LeastRules.{IsLeast}
use Rattle.odb_doc.specs.Statuses.{is_success}
use Rattle.odb_check.specs.declared.need.Need.{Need}
use Rattle.odb_check.specs.declared.need.Need.TheVariants.{One, Group}
use Rattle.odb_check.specs.PlanGraph.{PlanGraph, ArePassing, unit_of, needs_of}
use Rattle.odb_reply.specs.declared.status_fault.StatusRule.{StatusRule}
use Rattle.odb_reply.specs.declared.strictness.Strictness.{Strictness}
use Rattle.odb_reply.specs.declared.strictness.Strictness.TheVariants.{Requests, Units}
use Rattle.odb_reply.specs.StatusFaults.{BreaksStatus, status_number}

-- whether what a request needs can have reported a success, by the flags of the units and of the earlier requests
abbrev pub can_have_succeeded : PlanGraph → (ℕ → ℕ) → List Bool → List Bool → ℕ → Need → Bool
can_have_succeeded plan statuses units started i (One r) = is_success (statuses r) || ((unit_of plan r == unit_of plan i) && slice_index_or started r false && (statuses r == 424))
can_have_succeeded plan statuses units started i (Group u) = slice_index_or units u false

-- whether what a request needs, if it is of another unit, is answered 200 to 299
abbrev pub is_met_outside : PlanGraph → (ℕ → ℕ) → List Bool → ℕ → Need → Bool
is_met_outside plan statuses units i (One r) = (unit_of plan r == unit_of plan i) || is_success (statuses r)
is_met_outside plan statuses units i (Group u) = slice_index_or units u false

-- whether all that a request needs of other units is
abbrev pub met_outside : PlanGraph → (ℕ → ℕ) → List Bool → ℕ → Bool
met_outside plan statuses units i = list_all (is_met_outside plan statuses units i) (needs_of plan i)

-- whether units may be sent as one
abbrev pub sends_units : Strictness → Bool
sends_units Requests = false
sends_units Units = true

-- the flags of the units: whether each may have been sent as one
abbrev pub AreSent : Strictness → PlanGraph → (ℕ → ℕ) → List Bool → List Bool → Type 0
AreSent Requests plan statuses units sent = sent ≡ replicate plan.unit_count false
AreSent Units plan statuses units sent = ArePassing plan (met_outside plan statuses units) (length plan.units) sent

-- whether a request can have started, with its unit or alone
abbrev pub can_start : PlanGraph → (ℕ → ℕ) → List Bool → List Bool → List Bool → ℕ → Bool
can_start plan statuses units sent started i = slice_index_or sent (unit_of plan i) false || list_all (can_have_succeeded plan statuses units started i) (needs_of plan i)

-- the flags of the first n requests: whether each can have started
pub record AreStarts (plan : PlanGraph) (statuses : ℕ → ℕ) (units sent : List Bool) (n : ℕ) (started : List Bool) : Type 0 where
  pub count : length started ≡ n
  pub each : (i : ℕ) → i < n → slice_index_or started i false ≡ can_start plan statuses units sent started i

-- of each request whether it can have started
pub record HaveStarts (by : Strictness) (plan : PlanGraph) (statuses : ℕ → ℕ) (units started : List Bool) : Type 0 where
  pub sent : List Bool
  pub are_sent : AreSent by plan statuses units sent
  pub are_starts : AreStarts plan statuses units sent (length plan.units) started

-- no rule is broken at the position
abbrev pub IsSound : Strictness → PlanGraph → (ℕ → ℕ) → ℕ → Type 0
IsSound by plan statuses i = (rule : StatusRule) → ¬ BreaksStatus by plan statuses rule i

-- the rule is the first that is broken at the position
abbrev pub IsFirstAt : Strictness → PlanGraph → (ℕ → ℕ) → ℕ → StatusRule → Type 0
IsFirstAt by plan statuses i rule = IsLeast status_number (λ other. BreaksStatus by plan statuses other i) rule
