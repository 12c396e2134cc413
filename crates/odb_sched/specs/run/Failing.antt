-- Which units fail if some requests are bad (OData Protocol 4.01, section 11.7).
use Rattle.std.specs.Prelude.{◌≡◌, ◌≢◌, ℕ, zero, suc, ◌<◌, ◌==◌, ◌&&◌, ◌||◌, Bool, true, false, not, length, Contains}
use Rattle.std.specs.List.{list_any}
use Rattle.odb_check.specs.declared.need.Need.{Need}
use Rattle.odb_check.specs.PlanGraph.{PlanGraph, unit_needed, unit_of, needs_of}
use Rattle.odb_check.specs.Firsts.{any_below}
use Rattle.odb_doc.specs.Statuses.{is_success}

-- a unit fails: a member is bad, or depends on something of another unit that fails
pub data Fails (plan : PlanGraph) (bad : ℕ → Bool) : ℕ → Type 0 where
  own : (i : ℕ) → i < length plan.units → bad i ≡ true → Fails plan bad (unit_of plan i)
  propagated : (i : ℕ) (need : Need) → i < length plan.units → Contains (needs_of plan i) need → unit_needed (unit_of plan) need ≢ unit_of plan i → Fails plan bad (unit_needed (unit_of plan) need) → Fails plan bad (unit_of plan i)

-- whether a request needs something of another unit that has failed
abbrev pub needs_failed : PlanGraph → (ℕ → Bool) → ℕ → Bool
needs_failed plan failed i = list_any (λ need. not (unit_needed (unit_of plan) need == unit_of plan i) && failed (unit_needed (unit_of plan) need)) (needs_of plan i)

-- whether a unit fails within so many rounds, each of which propagates the failures of those before it
abbrev pub fails_within : PlanGraph → (ℕ → Bool) → ℕ → ℕ → Bool
fails_within plan bad zero u = false
fails_within plan bad (suc rounds) u = any_below (length plan.units) (λ i. unit_of plan i == u && (bad i || needs_failed plan (fails_within plan bad rounds) i))

-- Whether a unit fails. A failure is propagated to later units alone, so there are as many rounds as units.
abbrev pub fails : PlanGraph → (ℕ → Bool) → ℕ → Bool
fails plan bad u = fails_within plan bad plan.unit_count u

-- Whether a unit succeeds under a table of statuses: its members do, and each other unit that they need. So headers and
-- bodies have no part in it.
abbrev pub succeeds : PlanGraph → (ℕ → ℕ) → ℕ → Bool
succeeds plan statuses u = not (fails plan (λ i. not (is_success (statuses i))) u)
