-- Statuses that are possible for live runs are those of some live run. Of the units that can have been sent as one those without
-- a success are sent as one; all other requests start one by one.
use Rattle.std.proofs.Common.{◌≡◌, ℕ, suc, ◌<◌, ◌==◌, ◌∙◌, sym, refl, ap, arith, Bool, true, false, not, ◌&&◌, ◌||◌, cond, eq-eqb, eqb-true, List, length, get_or, inl, inr, is_some, Contains}
use Rattle.std.specs.List.{list_all}
use Rattle.std.proofs.lemmas.Bool.{cases_Bool, cases_eq, both_ways, and_from, and_parts, or_left, or_right, or_parts, not-true, not-false, not_from_false, false_from_ne_true, true_from_ne_false, true≢false}
use Rattle.odb_doc.specs.batch.Records.{Record}
use Rattle.odb_doc.specs.Statuses.{is_success, is_status}
use Rattle.odb_check.specs.Firsts.{any_below, all_below, list_below}
use Rattle.odb_check.specs.declared.need.Need.{Need}
use Rattle.odb_check.specs.declared.need.Need.TheVariants.{One, Group}
use Rattle.odb_check.specs.Plans.{batch_plan_graph}
use Rattle.odb_check.specs.PlanGraph.{PlanGraph, IsPlan, IsPlanGraphOf, unit_of, needs_of}
use Rattle.odb_check.proofs.BelowLemmas.{get_or-list_below}
use Rattle.odb_sched.specs.declared.policy.Mode.{Mode}
use Rattle.odb_sched.specs.declared.policy.Policy.{Policy}
use Rattle.odb_sched.specs.declared.phase.Phase.{Phase}
use Rattle.odb_sched.specs.declared.phase.Phase.TheVariants.{Unstarted, Reported}
use Rattle.odb_sched.specs.run.State.{State, size, is_running, is_reported, is_unstarted, has_succeeded, has_failed}
use Rattle.odb_sched.specs.run.Failing.{own}
use Rattle.odb_sched.specs.run.Steps.{succeeded_in, failed_in, is_stopped, is_finished}
use Rattle.odb_sched.specs.run.Units.{outer_needs}
use Rattle.odb_sched.specs.run.Answers.{answer_of, answer, status_of, outcome_of}
use Rattle.odb_sched.specs.run.LiveEvents.{first_live, live_state}
use Rattle.odb_sched.specs.run.Possible.{CanHaveSucceeded, IsPossible}
use Rattle.odb_sched.specs.run.PossibleLive.{IsAnswered2xx, CanHaveBeenSent, IsPossibleLive, HasLiveRun}
use Rattle.odb_sched.proofs.BelowLemmas.{any_below-Decides, all_below-Decides, first_false}
use Rattle.odb_sched.proofs.FailingLemmas.{fails-from_Fails, Fails-as}
use Rattle.odb_sched.proofs.LiveLemmas.{plan_graph-after_all_live, populated}
use Rattle.odb_sched.proofs.LiveReachableLemmas.{AreSendable, EndInFailure, ReachesLive, reaches_live}
use Rattle.odb_sched.proofs.OuterLemmas.{outer-from, outer-each}
use Rattle.odb_sched.proofs.PhaseLemmas.{get_or-replicate_Unstarted}
use Rattle.odb_sched.proofs.ReachableLemmas.{HasEnds, HasIn, IsEnd, early}
use Rattle.odb_sched.proofs.ReachedLemmas.{reached_first}
use Rattle.odb_sched.proofs.SatisfiedLemmas.{member_succeeded, succeeded_in-from}
use Rattle.odb_sched.proofs.StatusLemmas.{one_outcome}
use Rattle.odb_sched.proofs.WitnessLemmas.{bare, divided-at, end_of, fails_at, failed_at, good_at, is_bad, is_divided, is_end, is_met, over_or_failed, answer_at, unmet_at}

picked : {X : Type 0} (b : Bool) (x y : X) → b ≡ true → cond b x y ≡ x
picked true x y e = refl
picked false x y e = absurd (true≢false (sym e))

unpicked : {X : Type 0} (b : Bool) (x y : X) → b ≡ false → cond b x y ≡ y
unpicked true x y e = absurd (true≢false e)
unpicked false x y e = refl

module _ (plan : PlanGraph) (statuses : ℕ → ℕ) (laws : IsPlan plan) (possible : IsPossibleLive plan statuses) where
  -- what is needed is answered 200 to 299
  abbrev is_answered : Need → Bool
  is_answered (One r) = is_success (statuses r)
  is_answered (Group u) = all_below (length plan.units) (λ j. not (unit_of plan j == u) || is_success (statuses j))

  -- the unit can have been sent as one, and is not answered 200 to 299
  abbrev is_lost : ℕ → Bool
  is_lost u = list_all is_answered (outer_needs plan u) && not (is_answered (Group u))

  member_answered : (u j : ℕ) → is_answered (Group u) ≡ true → j < length plan.units → unit_of plan j ≡ u → is_success (statuses j) ≡ true
  member_answered u j whole inside here = at (unit_of plan j == u) (is_success (statuses j)) ((all_below-Decides (length plan.units) (λ k. not (unit_of plan k == u) || is_success (statuses k))).0 whole j inside) (eq-eqb _ _ here)
    where
      at : (a b : Bool) → (not a || b) ≡ true → a ≡ true → b ≡ true
      at true b e h = e
      at false b e h = absurd (true≢false (sym h))

  answered-from : (need : Need) → IsAnswered2xx plan statuses need → is_answered need ≡ true
  answered-from (One r) good = good
  answered-from (Group u) good = (all_below-Decides (length plan.units) (λ k. not (unit_of plan k == u) || is_success (statuses k))).1 (λ j inside. elim (cases_eq (unit_of plan j) u) [
    | inl here ↦ or_right _ _ (good j inside here)
    | inr elsewhere ↦ or_left _ _ (not_from_false _ (false_from_ne_true _ (λ e. elsewhere (eqb-true _ _ e))))
  ])

  -- of a lost unit no member is answered 200 to 299
  lost_fails : (i : ℕ) → i < length plan.units → is_lost (unit_of plan i) ≡ true → is_success (statuses i) ≡ false
  lost_fails i within lost =
      let parts = and_parts (list_all is_answered (outer_needs plan (unit_of plan i))) (not (is_answered (Group (unit_of plan i)))) lost in
      let (j, falls) = first_false (length plan.units) (λ k. not (unit_of plan k == unit_of plan i) || is_success (statuses k)) (not-true _ parts.1) in
      let failed = or_parts (not (unit_of plan j == unit_of plan i)) (is_success (statuses j)) falls.fails in
      let member : unit_of plan j ≡ unit_of plan i = eqb-true _ _ (not-false _ failed.0) in
      false_from_ne_true _ (λ good. both_ways _ failed.1 (possible.all_or_none i j within falls.below (sym member) good))

  kept_unit : (i : ℕ) → i < length plan.units → is_success (statuses i) ≡ true → is_lost (unit_of plan i) ≡ false
  kept_unit i within good = false_from_ne_true _ (λ lost. both_ways _ (lost_fails i within lost) good)

  -- ---- the statuses if no lost unit starts

  abbrev kept : ℕ → ℕ
  kept i = cond (is_lost (unit_of plan i)) 424 (statuses i)

  kept_as : (i : ℕ) → is_lost (unit_of plan i) ≡ false → kept i ≡ statuses i
  kept_as i e = unpicked (is_lost (unit_of plan i)) 424 (statuses i) e

  lost_as : (i : ℕ) → is_lost (unit_of plan i) ≡ true → kept i ≡ 424
  lost_as i e = picked (is_lost (unit_of plan i)) 424 (statuses i) e

  kept_success : (i : ℕ) → i < length plan.units → is_success (statuses i) ≡ true → is_success (kept i) ≡ true
  kept_success i within good = ap is_success (kept_as i (kept_unit i within good)) ∙ good

  abbrev starts : ℕ → Bool
  starts i = possible.started i && not (is_lost (unit_of plan i))

  -- what is needed for a unit that is not lost, and can have been sent
  can_have_outer : (i : ℕ) (need : Need) → i < length plan.units → is_lost (unit_of plan i) ≡ false → CanHaveBeenSent plan statuses (unit_of plan i) → Contains (needs_of plan i) need → CanHaveSucceeded plan kept starts i need
  can_have_outer i need within held sent has = by_need need has
    where
      outer : list_all is_answered (outer_needs plan (unit_of plan i)) ≡ true
      outer = outer-from plan (unit_of plan i) is_answered (λ j other inside here has elsewhere. answered-from other (sent j other inside here has elsewhere))

      whole : is_answered (Group (unit_of plan i)) ≡ true
      whole = true_from_ne_false _ (λ poor. both_ways _ held (and_from _ _ outer (not_from_false _ poor)))

      by_need : (need : Need) → Contains (needs_of plan i) need → CanHaveSucceeded plan kept starts i need
      by_need (One r) has =
          let earlier : r < i = laws.earlier i (One r) within has in
          let inside : r < length plan.units = omega (arith, earlier, within) in
          inl (kept_success r inside (elim (cases_eq (unit_of plan r) (unit_of plan i)) [
            | inl same ↦ member_answered (unit_of plan i) r whole inside same
            | inr other ↦ sent i (One r) within refl has other
          ]))
      by_need (Group u) has = λ j inside here.
          let lower : u < unit_of plan i = laws.earlier i (Group u) within has in
          kept_success j inside (sent i (Group u) within refl has (λ same. absurd (omega (arith, lower, same))) j inside here)

  can_have_alone : (i : ℕ) (need : Need) → i < length plan.units → is_lost (unit_of plan i) ≡ false → Contains (needs_of plan i) need → CanHaveSucceeded plan statuses possible.started i need → CanHaveSucceeded plan kept starts i need
  can_have_alone i (One r) within held has can =
      let earlier : r < i = laws.earlier i (One r) within has in
      let inside : r < length plan.units = omega (arith, earlier, within) in
      elim can [
        | inl good ↦ inl (kept_success r inside good)
        | inr (same, begun, undone) ↦
            let alike : is_lost (unit_of plan r) ≡ false = ap is_lost same ∙ held in
            inr (same, and_from _ _ begun (not_from_false _ alike), kept_as r alike ∙ undone)
      ]
  can_have_alone i (Group u) within held has good = λ j inside here. kept_success j inside (good j inside here)

  kept_possible : IsPossible plan kept
  kept_possible = record {
    final = λ i within. elim (cases_Bool (is_lost (unit_of plan i))) [
      | inl lost ↦ ap is_status (lost_as i lost)
      | inr held ↦ ap is_status (kept_as i held) ∙ possible.final i within
    ];
    all_or_none = λ i j within inside same good. elim (cases_Bool (is_lost (unit_of plan i))) [
      | inl lost ↦ absurd (both_ways _ (ap is_success (lost_as i lost)) good)
      | inr held ↦ ap is_success (kept_as j (ap is_lost (sym same) ∙ held)) ∙ possible.all_or_none i j within inside same (ap is_success (sym (kept_as i held)) ∙ good)
    ];
    started = starts;
    others = λ i within idle. elim (cases_Bool (is_lost (unit_of plan i))) [
      | inl lost ↦ lost_as i lost
      | inr held ↦ kept_as i held ∙ possible.others i within (false_from_ne_true _ (λ begun. both_ways _ idle (and_from _ _ begun (not_from_false _ held))))
    ];
    can_have = λ i need within started has.
        let (begun, kept_on) = and_parts (possible.started i) (not (is_lost (unit_of plan i))) started in
        let held : is_lost (unit_of plan i) ≡ false = not-true _ kept_on in
        elim (possible.can_have i within begun) [
          | inl sent ↦ can_have_outer i need within held sent has
          | inr alone ↦ can_have_alone i need within held has (alone need has)
        ];
  }

  -- ---- how the requests end

  -- if no lost unit starts
  abbrev end_kept : ℕ → Phase
  end_kept i = end_of plan kept laws kept_possible i

  -- before the lost units are sent
  abbrev end_early : ℕ → Phase
  end_early i = cond (is_lost (unit_of plan i)) Unstarted (end_kept i)

  -- in the end
  abbrev end_live : ℕ → Phase
  end_live i = cond (is_lost (unit_of plan i)) (Reported (bare (statuses i))) (end_kept i)

  lost_early : (i : ℕ) → is_lost (unit_of plan i) ≡ true → end_early i ≡ Unstarted
  lost_early i lost = picked (is_lost (unit_of plan i)) Unstarted (end_kept i) lost

  held_early : (i : ℕ) → is_lost (unit_of plan i) ≡ false → end_early i ≡ end_kept i
  held_early i held = unpicked (is_lost (unit_of plan i)) Unstarted (end_kept i) held

  lost_live : (i : ℕ) → is_lost (unit_of plan i) ≡ true → end_live i ≡ Reported (bare (statuses i))
  lost_live i lost = picked (is_lost (unit_of plan i)) (Reported (bare (statuses i))) (end_kept i) lost

  held_live : (i : ℕ) → is_lost (unit_of plan i) ≡ false → end_live i ≡ end_kept i
  held_live i held = unpicked (is_lost (unit_of plan i)) (Reported (bare (statuses i))) (end_kept i) held

  none_divided : (u : ℕ) → is_lost u ≡ true → is_divided plan kept laws kept_possible u ≡ false
  none_divided u lost = false_from_ne_true _ (λ divided.
      let (j, inside, here, poor, other) = divided-at plan kept laws kept_possible u divided in
      other (lost_as j (ap is_lost here ∙ lost)))

  lost_end : (i : ℕ) → i < length plan.units → is_lost (unit_of plan i) ≡ true → has_succeeded (end_kept i) ≡ false
  lost_end i within lost = elim (cases_Bool (list_all (is_met plan kept laws kept_possible) (needs_of plan i))) [
    | inl met ↦ ap has_succeeded (failed_at plan kept laws kept_possible i (lost_as i lost) (none_divided (unit_of plan i) lost) met)
    | inr unmet ↦ ap has_succeeded (unmet_at plan kept laws kept_possible i (lost_as i lost) (none_divided (unit_of plan i) lost) unmet)
  ]

  -- what has succeeded has done so before the lost units are sent
  early_success : (i : ℕ) → i < length plan.units → has_succeeded (end_kept i) ≡ true → has_succeeded (end_early i) ≡ true
  early_success i within done = elim (cases_Bool (is_lost (unit_of plan i))) [
    | inl lost ↦ absurd (both_ways _ (lost_end i within lost) done)
    | inr held ↦ ap has_succeeded (held_early i held) ∙ done
  ]

  early_need : (i : ℕ) (need : Need) → i < length plan.units → Contains (needs_of plan i) need → HasIn plan end_kept need → HasIn plan end_early need
  early_need i (One r) within has done = let earlier : r < i = laws.earlier i (One r) within has in early_success r (omega (arith, earlier, within)) done
  early_need i (Group u) within has done = λ j inside here. early_success j inside (done j inside here)

  early_end : IsEnd plan end_early
  early_end = record {
    over = λ i. elim (cases_Bool (is_lost (unit_of plan i))) [
      | inl lost ↦ ap is_running (lost_early i lost)
      | inr held ↦ ap is_running (held_early i held) ∙ (is_end plan kept laws kept_possible).over i
    ];
    statuses = λ i outcome within e. elim (cases_Bool (is_lost (unit_of plan i))) [
      | inl lost ↦ absurd (both_ways (is_some (outcome_of (end_early i))) (ap (λ phase. is_some (outcome_of phase)) (lost_early i lost)) (ap is_some e))
      | inr held ↦ (is_end plan kept laws kept_possible).statuses i outcome within (ap outcome_of (sym (held_early i held)) ∙ e)
    ];
    needs = λ i need within begun has. elim (cases_Bool (is_lost (unit_of plan i))) [
      | inl lost ↦ absurd (both_ways _ begun (ap is_unstarted (lost_early i lost)))
      | inr held ↦ early_need i need within has ((is_end plan kept laws kept_possible).needs i need within (ap is_unstarted (sym (held_early i held)) ∙ begun) has)
    ];
  }

  early_answered : (r : ℕ) → r < length plan.units → is_success (statuses r) ≡ true → has_succeeded (end_early r) ≡ true
  early_answered r inside good = early_success r inside (good_at plan kept laws kept_possible r (kept_success r inside good))

  -- what the members of a lost unit need of other units has succeeded before
  sendable : AreSendable plan is_lost end_early
  sendable = record {
    idle = λ i within lost. lost_early i lost;
    needs = λ i need within lost has other.
        let parts = and_parts (list_all is_answered (outer_needs plan (unit_of plan i))) (not (is_answered (Group (unit_of plan i)))) lost in
        by_need i need within has (outer-each plan (unit_of plan i) i need is_answered parts.0 within refl has other);
  }
    where
      by_need : (i : ℕ) (need : Need) → i < length plan.units → Contains (needs_of plan i) need → is_answered need ≡ true → HasIn plan end_early need
      by_need i (One r) within has good = let earlier : r < i = laws.earlier i (One r) within has in early_answered r (omega (arith, earlier, within)) good
      by_need i (Group u) within has good = λ j inside here. early_answered j inside (member_answered u j good inside here)

  lost_ends : EndInFailure plan is_lost end_early end_live
  lost_ends = record {
    statuses = λ i outcome within e. elim (cases_Bool (is_lost (unit_of plan i))) [
      | inl lost ↦ one_outcome (bare (statuses i)) (possible.final i within) outcome (ap outcome_of (sym (lost_live i lost)) ∙ e)
      | inr held ↦ (is_end plan kept laws kept_possible).statuses i outcome within (ap outcome_of (sym (held_live i held)) ∙ e)
    ];
    fail = λ i within lost. ap early (lost_live i lost) ∙ rw (lost_fails i within lost) refl;
    others = λ i within held. held_live i held ∙ sym (held_early i held);
  }

  -- ---- the answers, and the end of the run

  module _ (phases : List Phase) (at_ends : (i : ℕ) → i < length plan.units → get_or phases i Unstarted ≡ end_live i) where
    -- the phases if no lost unit had started
    abbrev others : List Phase
    others = list_below (length plan.units) end_kept

    at_others : (i : ℕ) → i < length plan.units → get_or others i Unstarted ≡ end_kept i
    at_others i within = get_or-list_below (length plan.units) end_kept i Unstarted within

    same_phase : (i : ℕ) → i < length plan.units → is_lost (unit_of plan i) ≡ false → get_or phases i Unstarted ≡ get_or others i Unstarted
    same_phase i within held = at_ends i within ∙ held_live i held ∙ sym (at_others i within)

    same_unit : (u : ℕ) → is_lost u ≡ false → succeeded_in plan phases u ≡ succeeded_in plan others u
    same_unit u held = elim (cases_Bool (succeeded_in plan others u)) [
      | inl whole ↦ succeeded_in-from plan phases u (λ j inside here. ap has_succeeded (same_phase j inside (ap is_lost here ∙ held)) ∙ member_succeeded plan others u j whole inside here) ∙ sym whole
      | inr poor ↦ false_from_ne_true _ (λ whole. both_ways _ poor
          (succeeded_in-from plan others u (λ j inside here. ap has_succeeded (sym (same_phase j inside (ap is_lost here ∙ held))) ∙ member_succeeded plan phases u j whole inside here))) ∙ sym poor
    ]

    live_answer : (i : ℕ) → i < length plan.units → status_of (answer_of (get_or phases i Unstarted) (succeeded_in plan phases (unit_of plan i))) ≡ statuses i
    live_answer i within = elim (cases_Bool (is_lost (unit_of plan i))) [
      | inl lost ↦ ap (λ phase. status_of (answer_of phase (succeeded_in plan phases (unit_of plan i)))) (at_ends i within ∙ lost_live i lost) ∙ rw (lost_fails i within lost) refl
      | inr held ↦
          ap (λ phase. status_of (answer_of phase (succeeded_in plan phases (unit_of plan i)))) (same_phase i within held)
          ∙ ap (λ whole. status_of (answer_of (get_or others i Unstarted) whole)) (same_unit (unit_of plan i) held)
          ∙ answer_at plan kept laws kept_possible others at_others i within
          ∙ kept_as i held
    ]

    bad_in : (j : ℕ) → j < length plan.units → is_bad plan kept laws kept_possible j ≡ true → has_failed (get_or phases j Unstarted) ≡ true
    bad_in j inside bad = elim (cases_Bool (is_lost (unit_of plan j))) [
      | inl lost ↦ ap has_failed (at_ends j inside ∙ lost_live j lost) ∙ not_from_false _ (lost_fails j inside lost)
      | inr held ↦ ap has_failed (at_ends j inside ∙ held_live j held) ∙ bad
    ]

    over_at : (i : ℕ) → i < length plan.units → (is_reported (get_or phases i Unstarted) || failed_in plan phases (unit_of plan i)) ≡ true
    over_at i within = elim (cases_Bool (is_lost (unit_of plan i))) [
      | inl lost ↦ or_left _ _ (ap is_reported (at_ends i within ∙ lost_live i lost))
      | inr held ↦ elim (over_or_failed plan kept laws kept_possible i) [
        | inl over ↦ or_left _ _ (ap is_reported (at_ends i within ∙ held_live i held) ∙ over)
        | inr poor ↦ or_right _ _ (fails-from_Fails plan (λ j. has_failed (get_or phases j Unstarted)) (unit_of plan i) laws
            (Fails-as plan (is_bad plan kept laws kept_possible) (λ j. has_failed (get_or phases j Unstarted)) (unit_of plan i) (λ j inside bad. own j inside (bad_in j inside bad))
            (fails_at plan kept laws kept_possible (suc (unit_of plan i)) i within (omega arith) poor)))
      ]
    ]

    none_runs : (i : ℕ) → i < length plan.units → is_running (get_or phases i Unstarted) ≡ false
    none_runs i within = elim (cases_Bool (is_lost (unit_of plan i))) [
      | inl lost ↦ ap is_running (at_ends i within ∙ lost_live i lost)
      | inr held ↦ ap is_running (at_ends i within ∙ held_live i held) ∙ (is_end plan kept laws kept_possible).over i
    ]

    is_over : (stopped : Bool) → (not (any_below (length plan.units) (λ i. is_running (get_or phases i Unstarted))) && (stopped || all_below (length plan.units) (λ i. is_reported (get_or phases i Unstarted) || failed_in plan phases (unit_of plan i)))) ≡ true
    is_over stopped = and_from _ _
        (not_from_false _ (false_from_ne_true _ (λ e.
        let (i, within, runs) = (any_below-Decides (length plan.units) (λ j. is_running (get_or phases j Unstarted))).0 e in
        both_ways _ (none_runs i within) runs)))
        (or_right stopped _ ((all_below-Decides (length plan.units) (λ j. is_reported (get_or phases j Unstarted) || failed_in plan phases (unit_of plan j))).1 over_at))

-- the ends in a state whose plan is the same
ends_with : (state : State) (plan : PlanGraph) (statuses : ℕ → ℕ) (laws : IsPlan plan) (possible : IsPossibleLive plan statuses) → state.plan_graph ≡ plan → HasEnds (length plan.units) (end_live plan statuses laws possible) state
    → (is_finished state ≡ true) × ((i : ℕ) → i < length plan.units → status_of (answer state i) ≡ statuses i)
ends_with state plan statuses laws possible same ends = (
  rw same (is_over plan statuses laws possible state.phases ends (is_stopped state)),
  rw same (live_answer plan statuses laws possible state.phases ends),
)

-- statuses that are possible for live runs are those of a finished one, in each mode
pub has_live_run : (requests : List Record) (mode : Mode) (statuses : ℕ → ℕ) → IsPlan (batch_plan_graph requests) → IsPlanGraphOf requests (batch_plan_graph requests) → IsPossibleLive (batch_plan_graph requests) statuses → HasLiveRun requests mode statuses
has_live_run requests mode statuses laws graph possible =
    let policy : Policy = record { mode = mode; width = 10000; wide = omega arith } in
    let plan : PlanGraph = batch_plan_graph requests in
    let first : State = first_live requests policy in
    let reach : ReachesLive first (HasEnds (size first) (end_live plan statuses laws possible)) =
    reaches_live first (is_lost plan statuses laws possible) (end_early plan statuses laws possible) (end_live plan statuses laws possible) (reached_first plan policy laws) (populated requests plan graph) refl refl
    (get_or-replicate_Unstarted (length plan.units)) (early_end plan statuses laws possible) (sendable plan statuses laws possible) (lost_ends plan statuses laws possible) in
    let (finished, answered) = ends_with (live_state requests policy reach.events) plan statuses laws possible (plan_graph-after_all_live first reach.events) reach.holds in
    record { policy = policy; mode_is = refl; events = reach.events; run = reach.run; finished = finished; answered = answered }
