-- The conditions under which a unit may begin, and the first cause against it.
use Rattle.std.proofs.Common.{◌≡◌, ◌∙◌, ℕ, ◌<◌, ◌≤◌, ◌+◌, ◌==◌, eq-eqb, eqb-true, ap, sym, arith, true, false, not, ◌&&◌, nat_lt, lt-ltb, ltb-true, List, length, get_or, None, is_none, is_some, find, inl, inr}
use Rattle.std.proofs.lemmas.Bool.{cases_Bool, both_ways, true≢false, and_from, and_parts, not-true, not_from_false, true_from_ne_false, false_from_ne_true}
use Rattle.odb_check.specs.PlanGraph.{PlanGraph, unit_of}
use Rattle.odb_sched.specs.declared.phase.Phase.{Phase}
use Rattle.odb_sched.specs.declared.phase.Phase.TheVariants.{Unstarted}
use Rattle.odb_sched.specs.declared.refusal.StartRefusal.{StartRefusal}
use Rattle.odb_sched.specs.declared.refusal.StartRefusal.TheVariants as start
use Rattle.odb_check.specs.Firsts.{any_below}
use Rattle.odb_sched.specs.run.State.{State, is_unstarted, members_in, size, phase_at}
use Rattle.odb_sched.specs.run.Steps.{is_stopped, unit_failed, is_satisfied, running_count, spare_in, places, start_number}
use Rattle.odb_sched.specs.run.Units.{outer_needs, outer_satisfied, has_begun, has_begun_in, may_begin, BarsUnit, IsUnitCause}
use Rattle.odb_sched.proofs.BelowLemmas.{any_below-Decides, find-all}
use Rattle.odb_sched.specs.invariants.Kept.{IsReached}
use Rattle.odb_sched.proofs.CountLemmas.{count_none}
use Rattle.odb_sched.proofs.StartLemmas.{fewer_run, Unstarted-not_running}

pub record MayBegin (state : State) (u : ℕ) : Type 0 where
  pub fresh : has_begun state u ≡ false
  pub unstopped : is_stopped state ≡ false
  pub sound : unit_failed state u ≡ false
  pub satisfied : outer_satisfied state u ≡ true
  pub room : running_count state < places state

pub may_begin-from : (state : State) (u : ℕ) → MayBegin state u → may_begin state u ≡ true
may_begin-from state u parts =
    and_from _ _ (and_from _ _ (and_from _ _ (and_from _ _ (not_from_false _ parts.fresh) (not_from_false _ parts.unstopped)) (not_from_false _ parts.sound)) parts.satisfied) (lt-ltb _ _ parts.room)

pub may_begin-parts : (state : State) (u : ℕ) → may_begin state u ≡ true → MayBegin state u
may_begin-parts state u may =
    let room = and_parts (not (has_begun state u) && not (is_stopped state) && not (unit_failed state u) && outer_satisfied state u) (nat_lt (running_count state) (places state)) may in
    let satisfied = and_parts (not (has_begun state u) && not (is_stopped state) && not (unit_failed state u)) (outer_satisfied state u) room.0 in
    let sound = and_parts (not (has_begun state u) && not (is_stopped state)) (not (unit_failed state u)) satisfied.0 in
    let fresh = and_parts (not (has_begun state u)) (not (is_stopped state)) sound.0 in
    record { fresh = not-true _ fresh.0; unstopped = not-true _ fresh.1; sound = not-true _ sound.1; satisfied = satisfied.1; room = ltb-true _ _ room.1 }

-- of a unit that has not begun no member has started
pub member_unstarted : (plan : PlanGraph) (phases : List Phase) (u i : ℕ) → has_begun_in plan phases u ≡ false → i < length plan.units → unit_of plan i ≡ u → is_unstarted (get_or phases i Unstarted) ≡ true
member_unstarted plan phases u i fresh within here = true_from_ne_false _ (λ begun.
    both_ways _ fresh ((any_below-Decides (length plan.units) (λ j. (unit_of plan j == u) && not (is_unstarted (get_or phases j Unstarted)))).1 (i, within, and_from _ _ (eq-eqb _ _ here) (not_from_false _ begun))))

-- a unit with members has one
pub some_member : (plan : PlanGraph) (u : ℕ) → 0 < members_in plan u → (i : ℕ) × (i < length plan.units) × (unit_of plan i ≡ u)
some_member plan u some = elim (cases_Bool (any_below (length plan.units) (λ i. unit_of plan i == u))) [
  | inl any ↦ let (i, within, here) = (any_below-Decides (length plan.units) (λ i. unit_of plan i == u)).0 any in (i, within, eqb-true _ _ here)
  | inr none ↦
      let empty : members_in plan u ≡ 0 = count_none (length plan.units) (λ i. unit_of plan i == u) (λ i within. false_from_ne_true _ (λ here. both_ways _ none ((any_below-Decides (length plan.units) (λ j. unit_of plan j == u)).1 (i, within, here)))) in
      absurd (omega (arith, empty, some))
]

-- of a unit that has not begun no report is awaited
pub unit_apart : (state : State) (u : ℕ) → IsReached state → 0 < members_in state.plan_graph u → has_begun state u ≡ false → get_or state.awaited u 0 ≡ 0
unit_apart state u reached some fresh =
    let (i, within, here) = some_member state.plan_graph u some in
    ap (λ v. get_or state.awaited v 0) (sym here) ∙ reached.apart i within (member_unstarted state.plan_graph state.phases u i fresh within here)

module _ (state : State) (u : ℕ) where
  module _ (fresh : has_begun state u ≡ false) (going : is_stopped state ≡ false) (sound : unit_failed state u ≡ false) (met : find (λ need. not (is_satisfied state need)) (outer_needs state.plan_graph u) ≡ None) where
    -- none of the causes before the width bars the unit
    none_before : (other : StartRefusal) → start_number other < 5 → ¬ BarsUnit other state u
    none_before start.AlreadyStarted less bars = both_ways _ fresh bars
    none_before start.Stopped less bars = both_ways _ going bars
    none_before start.UnitFailed less bars = both_ways _ sound bars
    none_before (start.Waiting need) less bars = true≢false (sym (ap is_some (sym met ∙ bars)))
    none_before start.WidthReached less bars = absurd (omega arith)

    pub first_full_unit : places state ≤ running_count state → IsUnitCause state u start.WidthReached
    first_full_unit bars = record { broken = bars; least = none_before }

    pub none_bars_unit : running_count state < places state → may_begin state u ≡ true
    none_bars_unit room = may_begin-from state u (record { fresh = fresh; unstopped = going; sound = sound; satisfied = sym (find-all (is_satisfied state) (outer_needs state.plan_graph u)) ∙ ap is_none met; room = room })

  unbarred_unit : MayBegin state u → (cause : StartRefusal) → ¬ BarsUnit cause state u
  unbarred_unit may start.AlreadyStarted bars = both_ways _ may.fresh bars
  unbarred_unit may start.Stopped bars = both_ways _ may.unstopped bars
  unbarred_unit may start.UnitFailed bars = both_ways _ may.sound bars
  unbarred_unit may (start.Waiting need) bars = both_ways (outer_satisfied state u) (sym (find-all (is_satisfied state) (outer_needs state.plan_graph u)) ∙ ap is_none bars) may.satisfied
  unbarred_unit may start.WidthReached bars = let room = may.room in absurd (omega arith)

  -- what a cause bars may not begin
  pub unit_barred : (cause : StartRefusal) → IsUnitCause state u cause → may_begin state u ≡ false
  unit_barred cause first = false_from_ne_true _ (λ may. unbarred_unit (may_begin-parts state u may) cause first.broken)

  -- a width for all requests holds no unit back
  pub unit_not_held_back : 0 < members_in state.plan_graph u → length state.phases ≡ size state → size state ≤ state.policy.width → ¬ IsUnitCause state u start.WidthReached
  unit_not_held_back some each wide first =
      let fresh : has_begun state u ≡ false = false_from_ne_true _ (first.least start.AlreadyStarted (omega arith)) in
      let (i, within, here) = some_member state.plan_graph u some in
      let idle = member_unstarted state.plan_graph state.phases u i fresh within here in
      let fewer : running_count state < length state.phases = fewer_run state.phases i (omega (arith, within, each)) (Unstarted-not_running (phase_at state i) idle) in
      let full : state.policy.width + spare_in state.awaited ≤ running_count state = first.broken in
      absurd (omega (arith, fewer, full, wide, each))
