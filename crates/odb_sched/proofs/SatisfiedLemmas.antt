-- What is satisfied, and what that means for the requests.
use Rattle.std.proofs.Common.{◌≡◌, ℕ, ◌<◌, ◌∙◌, sym, ap, Bool, true, false, not, ◌||◌, eqb, eq-eqb, List, length, get_or, set, inl, inr}
use Rattle.std.proofs.lemmas.Bool.{cases_eq, both_ways, or_left, or_right, ne_eqb, not_from_false, true≢false}
use Rattle.odb_check.specs.declared.need.Need.{Need}
use Rattle.odb_check.specs.declared.need.Need.TheVariants.{One, Group}
use Rattle.odb_check.specs.PlanGraph.{PlanGraph, unit_of}
use Rattle.odb_sched.specs.declared.phase.Phase.{Phase}
use Rattle.odb_sched.specs.declared.phase.Phase.TheVariants.{Unstarted}
use Rattle.odb_sched.specs.run.State.{has_succeeded}
use Rattle.odb_sched.specs.run.Steps.{succeeded_in, satisfied_in}
use Rattle.odb_sched.proofs.BelowLemmas.{all_below-Decides}
use Rattle.odb_sched.proofs.PhaseLemmas.{get_or-set_cases}

not_member_or : (a b : Bool) → a ≡ true → (not a || b) ≡ true → b ≡ true
not_member_or true b e h = h
not_member_or false b e h = absurd (true≢false (sym e))

-- of a unit that has succeeded each member has
pub member_succeeded : (plan : PlanGraph) (phases : List Phase) (u i : ℕ) → succeeded_in plan phases u ≡ true → i < length plan.units → unit_of plan i ≡ u → has_succeeded (get_or phases i Unstarted) ≡ true
member_succeeded plan phases u i e within here =
    not_member_or (eqb (unit_of plan i) u) _ (eq-eqb (unit_of plan i) u here) ((all_below-Decides (length plan.units) (λ j. not (eqb (unit_of plan j) u) || has_succeeded (get_or phases j Unstarted))).0 e i within)

-- a unit each of whose members has succeeded has too
pub succeeded_in-from : (plan : PlanGraph) (phases : List Phase) (u : ℕ) → ((i : ℕ) → i < length plan.units → unit_of plan i ≡ u → has_succeeded (get_or phases i Unstarted) ≡ true) → succeeded_in plan phases u ≡ true
succeeded_in-from plan phases u each = (all_below-Decides (length plan.units) (λ j. not (eqb (unit_of plan j) u) || has_succeeded (get_or phases j Unstarted))).1 (λ i within. elim (cases_eq (unit_of plan i) u) [
  | inl here ↦ or_right _ _ (each i within here)
  | inr elsewhere ↦ or_left _ _ (not_from_false _ (ne_eqb (unit_of plan i) u elsewhere))
])

-- a write over a request that has not succeeded takes no success away
pub has_succeeded-set : (phases : List Phase) (i j : ℕ) (phase : Phase) → has_succeeded (get_or phases i Unstarted) ≡ false → has_succeeded (get_or phases j Unstarted) ≡ true → has_succeeded (get_or (set phases i phase) j Unstarted) ≡ true
has_succeeded-set phases i j phase fresh done = elim (get_or-set_cases phases i j phase) [
  | inl written ↦ absurd (both_ways (has_succeeded (get_or phases i Unstarted)) fresh (ap (λ k. has_succeeded (get_or phases k Unstarted)) (sym written.0) ∙ done))
  | inr kept ↦ ap has_succeeded kept ∙ done
]

pub satisfied_in-set : (plan : PlanGraph) (phases : List Phase) (i : ℕ) (phase : Phase) (need : Need) → has_succeeded (get_or phases i Unstarted) ≡ false → satisfied_in plan phases need ≡ true → satisfied_in plan (set phases i phase) need ≡ true
satisfied_in-set plan phases i phase (One r) fresh satisfied = has_succeeded-set phases i r phase fresh satisfied
satisfied_in-set plan phases i phase (Group u) fresh satisfied = succeeded_in-from plan (set phases i phase) u (λ j within here. has_succeeded-set phases i j phase fresh (member_succeeded plan phases u j satisfied within here))
