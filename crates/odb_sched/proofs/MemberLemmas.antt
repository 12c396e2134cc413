-- The state after a unit was sent as one.
use Rattle.std.proofs.Common.{◌≡◌, ℕ, ◌<◌, ◌≤◌, ◌+◌, ◌-◌, ◌==◌, ◌∙◌, ◌⊎◌, ◌≢◌, sym, refl, ap, arith, true, false, if◌then◌else◌, eq-eqb, List, length, length-set, get_or, get_or-set_other, set, count_by, inl, inr, Contains}
use Rattle.std.proofs.lemmas.Bool.{cases_eq, cases_lt, both_ways, ne_eqb}
use Rattle.std.proofs.lemmas.List.{ext_get_or, get_or_past}
use Rattle.odb_check.specs.declared.need.Need.{Need}
use Rattle.odb_check.specs.PlanGraph.{PlanGraph, IsSpan, unit_of, needs_of, unit_needed}
use Rattle.odb_check.proofs.BelowLemmas.{length-list_below, get_or-list_below}
use Rattle.odb_sched.specs.declared.phase.Phase.{Phase}
use Rattle.odb_sched.specs.declared.phase.Phase.TheVariants.{Unstarted, Running}
use Rattle.odb_sched.specs.run.State.{State, is_unstarted, is_running, has_succeeded, members_in, running_members, started_unit, size, phase_at}
use Rattle.odb_sched.specs.run.Steps.{spare_in, is_satisfied}
use Rattle.odb_sched.specs.run.Units.{has_begun_in}
use Rattle.odb_sched.specs.run.Answers.{outcome_of}
use Rattle.odb_sched.specs.invariants.Kept.{IsReached}
use Rattle.odb_sched.proofs.BeginLemmas.{MayBegin, member_unstarted}
use Rattle.odb_sched.proofs.LaneLemmas.{spare-set}
use Rattle.odb_sched.proofs.OuterLemmas.{outer-each}
use Rattle.odb_sched.proofs.PhaseLemmas.{Unstarted-from}
use Rattle.odb_sched.proofs.SameLemmas.{satisfied_same}

-- the phase of a request: a member runs, and any other has its phase
pub member_at : (plan : PlanGraph) (phases : List Phase) (u j : ℕ) → j < length plan.units → get_or (running_members plan phases u) j Unstarted ≡ (if unit_of plan j == u then Running else get_or phases j Unstarted)
member_at plan phases u j within = get_or-list_below (length plan.units) (λ i. if unit_of plan i == u then Running else get_or phases i Unstarted) j Unstarted within

pub member_runs : (plan : PlanGraph) (phases : List Phase) (u j : ℕ) → j < length plan.units → unit_of plan j ≡ u → get_or (running_members plan phases u) j Unstarted ≡ Running
member_runs plan phases u j within here = member_at plan phases u j within ∙ ap (λ b. if b then Running else get_or phases j Unstarted) (eq-eqb (unit_of plan j) u here)

pub other_stays : (plan : PlanGraph) (phases : List Phase) (u j : ℕ) → j < length plan.units → unit_of plan j ≢ u → get_or (running_members plan phases u) j Unstarted ≡ get_or phases j Unstarted
other_stays plan phases u j within elsewhere = member_at plan phases u j within ∙ ap (λ b. if b then Running else get_or phases j Unstarted) (ne_eqb (unit_of plan j) u elsewhere)

-- phases that are those
pub phases_running : (plan : PlanGraph) (before after : List Phase) (u from to : ℕ) → IsSpan plan u from to → length after ≡ length plan.units → ((j : ℕ) → from ≤ j → j < to → get_or after j Unstarted ≡ Running)
    → ((j : ℕ) → j < from → get_or after j Unstarted ≡ get_or before j Unstarted) → ((j : ℕ) → to ≤ j → get_or after j Unstarted ≡ get_or before j Unstarted) → after ≡ running_members plan before u
phases_running plan before after u from to span each members earlier later =
    ext_get_or Unstarted after (running_members plan before u) (each ∙ sym (length-list_below (length plan.units) (λ i. if unit_of plan i == u then Running else get_or before i Unstarted)))
    (λ j inside. let within : j < length plan.units = omega (arith, inside, each) in at j within (cases_lt j from) (cases_lt j to))
  where
    at : (j : ℕ) → j < length plan.units → (j < from) ⊎ (from ≤ j) → (j < to) ⊎ (to ≤ j) → get_or after j Unstarted ≡ get_or (running_members plan before u) j Unstarted
    at j within (inl early) place = earlier j early ∙ sym (other_stays plan before u j within (λ here. let inside = (span.exact j within).0 here in omega (arith, inside.0, early)))
    at j within (inr begun) (inl more) = members j begun more ∙ sym (member_runs plan before u j within ((span.exact j within).1 (begun, more)))
    at j within (inr begun) (inr late) = later j late ∙ sym (other_stays plan before u j within (λ here. let inside = (span.exact j within).0 here in omega (arith, inside.1, late)))

-- what answers alike for a running request and one that has not started answers as before
pub as_running : {X : Type 0} (plan : PlanGraph) (phases : List Phase) (u : ℕ) (value : Phase → X) → length phases ≡ length plan.units → has_begun_in plan phases u ≡ false → value Running ≡ value Unstarted
    → (j : ℕ) → value (get_or (running_members plan phases u) j Unstarted) ≡ value (get_or phases j Unstarted)
as_running plan phases u value each fresh same j = elim (cases_lt j (length plan.units)) [
  | inl within ↦ elim (cases_eq (unit_of plan j) u) [
    | inl here ↦ ap value (member_runs plan phases u j within here) ∙ same ∙ ap value (sym (Unstarted-from _ (member_unstarted plan phases u j fresh within here)))
    | inr elsewhere ↦ ap value (other_stays plan phases u j within elsewhere)
  ]
  | inr past ↦ ap value (get_or_past (running_members plan phases u) j Unstarted (rw (length-list_below (length plan.units) (λ i. if unit_of plan i == u then Running else get_or phases i Unstarted)) past) ∙ sym (get_or_past phases j Unstarted (rw each past)))
]

-- of a unit that was sent as one all that holds of reached states holds
module _ (state : State) (u : ℕ) (reached : IsReached state) (begin : MayBegin state u) (known : u < state.plan_graph.unit_count) where
  abbrev after : List Phase
  after = running_members state.plan_graph state.phases u

  -- a request that has not started after it is no member, and had not started before
  still : (i : ℕ) → i < size state → is_unstarted (get_or after i Unstarted) ≡ true → (unit_of state.plan_graph i ≢ u) × (is_unstarted (phase_at state i) ≡ true)
  still i within fresh = elim (cases_eq (unit_of state.plan_graph i) u) [
    | inl here ↦ absurd (both_ways _ (ap is_unstarted (member_runs state.plan_graph state.phases u i within here)) fresh)
    | inr elsewhere ↦ (elsewhere, ap is_unstarted (sym (other_stays state.plan_graph state.phases u i within elsewhere)) ∙ fresh)
  ]

  needs_met : (i : ℕ) (need : Need) → i < size state → is_unstarted (get_or after i Unstarted) ≡ false → Contains (needs_of state.plan_graph i) need → unit_needed (unit_of state.plan_graph) need ≢ unit_of state.plan_graph i → is_satisfied state need ≡ true
  needs_met i need within begun has other = elim (cases_eq (unit_of state.plan_graph i) u) [
    | inl here ↦ outer-each state.plan_graph u i need (is_satisfied state) begin.satisfied within here has (λ own. other (own ∙ sym here))
    | inr elsewhere ↦ reached.needs i need within (ap is_unstarted (sym (other_stays state.plan_graph state.phases u i within elsewhere)) ∙ begun) has other
  ]

  pub reached_unit : 0 < members_in state.plan_graph u → get_or state.awaited u 0 ≡ 0 → count_by is_running after ≡ count_by is_running state.phases + members_in state.plan_graph u → IsReached (started_unit state u)
  reached_unit some apart running = record {
    laws = reached.laws;
    each = length-list_below (size state) (λ i. if unit_of state.plan_graph i == u then Running else get_or state.phases i Unstarted);
    narrow =
        let by_unit : length state.awaited ≡ state.plan_graph.unit_count = reached.by_unit in
        let grown : spare_in (set state.awaited u (members_in state.plan_graph u)) + (get_or state.awaited u 0 - 1) ≡ spare_in state.awaited + (members_in state.plan_graph u - 1) = spare-set state.awaited u (members_in state.plan_graph u) (omega (arith, by_unit, known)) in
        let room : count_by is_running state.phases < state.policy.width + spare_in state.awaited = begin.room in
        let narrow : count_by is_running after ≤ state.policy.width + spare_in (set state.awaited u (members_in state.plan_graph u)) = omega (arith, grown, room, running, some, apart) in
        narrow;
    needs = λ i need within begun has other. satisfied_same state.plan_graph after state.phases (as_running state.plan_graph state.phases u has_succeeded reached.each begin.fresh refl) need ∙ needs_met i need within begun has other;
    statuses = λ i outcome e. reached.statuses i outcome (sym (as_running state.plan_graph state.phases u outcome_of reached.each begin.fresh refl i) ∙ e);
    by_unit = length-set state.awaited u (members_in state.plan_graph u) ∙ reached.by_unit;
    apart = λ i within fresh. let before = still i within fresh in get_or-set_other state.awaited u (unit_of state.plan_graph i) (members_in state.plan_graph u) 0 before.0 ∙ reached.apart i within before.1;
  }
