-- A run that is not finished has a request that runs or one that may start.
use Rattle.std.proofs.Common.{◌≡◌, ℕ, ◌<◌, ◌≤◌, ◌∙◌, ap, arith, Bool, true, false, not, ◌||◌, length, inl, inr, Contains, ◌⊎◌}
use Rattle.std.proofs.lemmas.Bool.{cases_Bool, cases_eq, cases_lt, both_ways, and_cases, and_parts, or_parts, or_cases, false_from_ne_true, not-true, not_from_false}
use Rattle.std.proofs.lemmas.List.{get_or_default}
use Rattle.odb_check.specs.declared.need.Need.{Need}
use Rattle.odb_check.specs.declared.need.Need.TheVariants.{One, Group}
use Rattle.odb_check.specs.PlanGraph.{IsPlan, unit_of, needs_of, unit_needed}
use Rattle.odb_sched.specs.declared.phase.Phase.TheVariants.{Unstarted}
use Rattle.odb_check.specs.Firsts.{any_below, all_below}
use Rattle.odb_sched.specs.run.State.{is_running, is_reported, has_succeeded, has_failed, State, size, phase_at}
use Rattle.odb_sched.specs.run.Failing.{own, propagated}
use Rattle.odb_sched.specs.run.Steps.{is_stopped, is_satisfied, unit_failed, may_start, running_count, places, is_finished}
use Rattle.odb_sched.specs.run.Laws.{IsNeverStuck}
use Rattle.odb_sched.specs.invariants.Kept.{IsReached}
use Rattle.odb_sched.proofs.BelowLemmas.{any_below-Decides, all_below-Decides, IsFirstFalse, first_false, list_all-from}
use Rattle.odb_sched.proofs.FailingLemmas.{Fails-from_fails, fails-from_Fails}
use Rattle.odb_sched.proofs.PhaseLemmas.{is_unstarted-from, is_unstarted-reported, has_succeeded-from}
use Rattle.odb_sched.proofs.SatisfiedLemmas.{succeeded_in-from}
use Rattle.odb_sched.proofs.StartLemmas.{may_start-from, may_start-parts, some_places}
use Rattle.odb_dense.proofs.CountLemmas.{count_none}

-- the request is reported or of a failed unit
abbrev pub is_over : State → ℕ → Bool
is_over state i = is_reported (phase_at state i) || unit_failed state (unit_of state.plan_graph i)

-- a request that is over and whose unit has not failed has succeeded
pub over_succeeded : (state : State) (j : ℕ) → IsPlan state.plan_graph → j < size state → is_over state j ≡ true → unit_failed state (unit_of state.plan_graph j) ≡ false → has_succeeded (phase_at state j) ≡ true
over_succeeded state j laws within over sound = has_succeeded-from (phase_at state j)
    (elim (or_cases (is_reported (phase_at state j)) (unit_failed state (unit_of state.plan_graph j)) over) [
      | inl reported ↦ reported
      | inr failed ↦ absurd (both_ways _ sound failed)
    ])
    (false_from_ne_true (has_failed (phase_at state j)) (λ failed. both_ways _ sound (fails-from_Fails state.plan_graph (λ i. has_failed (phase_at state i)) (unit_of state.plan_graph j) laws (own j within failed))))

-- if the unit of a request has not failed, no unit that the request needs has
pub sound_needed : (state : State) (i : ℕ) (need : Need) → IsPlan state.plan_graph → i < size state → Contains (needs_of state.plan_graph i) need → unit_failed state (unit_of state.plan_graph i) ≡ false → unit_failed state (unit_needed (unit_of state.plan_graph) need) ≡ false
sound_needed state i need laws within has sound = elim (cases_eq (unit_needed (unit_of state.plan_graph) need) (unit_of state.plan_graph i)) [
  | inl same ↦ rw same sound
  | inr other ↦ false_from_ne_true _ (λ failed. both_ways _ sound (fails-from_Fails state.plan_graph (λ j. has_failed (phase_at state j)) (unit_of state.plan_graph i) laws
      (propagated i need within has other (Fails-from_fails state.plan_graph (λ j. has_failed (phase_at state j)) (unit_needed (unit_of state.plan_graph) need) failed))))
]

-- if all requests before a request are over, and its unit has not failed, its needs are satisfied
satisfied_at_first : (state : State) (i : ℕ) (need : Need) → IsPlan state.plan_graph → i < size state → unit_failed state (unit_of state.plan_graph i) ≡ false → ((j : ℕ) → j < i → is_over state j ≡ true) → Contains (needs_of state.plan_graph i) need → is_satisfied state need ≡ true
satisfied_at_first state i (One r) laws within sound before has =
    let earlier : r < i = laws.earlier i (One r) within has in
    over_succeeded state r laws (omega arith) (before r earlier) (sound_needed state i (One r) laws within has sound)
satisfied_at_first state i (Group u) laws within sound before has =
    let earlier : u < unit_of state.plan_graph i = laws.earlier i (Group u) within has in
    succeeded_in-from state.plan_graph state.phases u (λ j inside here.
    elim (cases_lt j i) [
      | inl first ↦ over_succeeded state j laws inside (before j first) (rw here (sound_needed state i (Group u) laws within has sound))
      | inr later ↦ let ordered : unit_of state.plan_graph i ≤ unit_of state.plan_graph j = laws.in_order i j later inside in absurd (omega arith)
    ])

-- none runs, so the count of running requests is 0
pub none_counted : (state : State) → length state.phases ≡ size state → any_below (size state) (λ i. is_running (phase_at state i)) ≡ false → running_count state ≡ 0
none_counted state each none = count_none is_running state.phases (λ k d within.
    false_from_ne_true _ (λ runs. both_ways _ none ((any_below-Decides (size state) (λ i. is_running (phase_at state i))).1 (k, omega arith, ap is_running (get_or_default state.phases k Unstarted d within) ∙ runs))))

-- none runs and the run is not finished, so the first request that is not over may start
first_may_start : (state : State) → IsReached state → any_below (size state) (λ i. is_running (phase_at state i)) ≡ false → is_stopped state ≡ false → (i : ℕ) → IsFirstFalse (size state) (is_over state) i → may_start state i ≡ true
first_may_start state reached none unstopped i first =
    let wide : 0 < places state = some_places state in
    let within : i < size state = first.below in
    let open_parts = or_parts (is_reported (phase_at state i)) (unit_failed state (unit_of state.plan_graph i)) first.fails in
    let idle : is_running (phase_at state i) ≡ false = false_from_ne_true _ (λ runs. both_ways _ none ((any_below-Decides (size state) (λ j. is_running (phase_at state j))).1 (i, within, runs))) in
    let count : running_count state ≡ 0 = none_counted state reached.each none in
    may_start-from state i (record {
      fresh = is_unstarted-from (phase_at state i) open_parts.0 idle;
      unstopped = unstopped;
      sound = open_parts.1;
      satisfied = list_all-from (is_satisfied state) (needs_of state.plan_graph i) (λ need has. satisfied_at_first state i need reached.laws within open_parts.1 first.before has);
      room = rw count wide;
    })

-- none runs in an unfinished run, so it is not stopped and some request is not over
pub unfinished_parts : (state : State) → is_finished state ≡ false → any_below (size state) (λ i. is_running (phase_at state i)) ≡ false → (is_stopped state ≡ false) × (all_below (size state) (is_over state) ≡ false)
unfinished_parts state unfinished none = elim (and_cases (not (any_below (size state) (λ i. is_running (phase_at state i)))) (is_stopped state || all_below (size state) (is_over state)) unfinished) [
  | inl some ↦ absurd (both_ways _ some (not_from_false _ none))
  | inr open_end ↦ or_parts _ _ open_end
]

pub never_stuck : (state : State) → IsReached state → IsNeverStuck state
never_stuck state reached unfinished = elim (cases_Bool (any_below (size state) (λ i. is_running (phase_at state i)))) [
  | inl some ↦ let (i, within, runs) = (any_below-Decides (size state) (λ i. is_running (phase_at state i))).0 some in (i, within, inl runs)
  | inr none ↦
      let parts = unfinished_parts state unfinished none in
      let (i, first) = first_false (size state) (is_over state) parts.1 in
      (i, first.below, inr (first_may_start state reached none parts.0 i first))
]

-- in a finished run none runs, and it is stopped or each request is over
pub finished_parts : (state : State) → is_finished state ≡ true
    → ((i : ℕ) → i < size state → is_running (phase_at state i) ≡ false) × ((is_stopped state ≡ true) ⊎ ((i : ℕ) → i < size state → is_over state i ≡ true))
finished_parts state finished =
    let parts = and_parts (not (any_below (size state) (λ j. is_running (phase_at state j)))) (is_stopped state || all_below (size state) (is_over state)) finished in (
      (λ i within. false_from_ne_true _ (λ runs. both_ways _ (not-true _ parts.0) ((any_below-Decides (size state) (λ j. is_running (phase_at state j))).1 (i, within, runs)))),
      elim (or_cases (is_stopped state) (all_below (size state) (is_over state)) parts.1) [ inl stopped ↦ inl stopped | inr over ↦ inr ((all_below-Decides (size state) (is_over state)).0 over) ],
    )

pub none_runs : (state : State) (i : ℕ) → is_finished state ≡ true → i < size state → is_running (phase_at state i) ≡ false
none_runs state i finished within = (finished_parts state finished).0 i within

-- and none may start
pub none_starts : (state : State) (i : ℕ) → is_finished state ≡ true → i < size state → may_start state i ≡ false
none_starts state i finished within = false_from_ne_true _ (λ starts.
    let start = may_start-parts state i starts in
    elim (finished_parts state finished).1 [
      | inl stopped ↦ both_ways _ start.unstopped stopped
      | inr over ↦ elim (or_cases (is_reported (phase_at state i)) (unit_failed state (unit_of state.plan_graph i)) (over i within)) [
        | inl reported ↦ both_ways _ (is_unstarted-reported (phase_at state i) start.fresh) reported
        | inr failed ↦ both_ways _ start.sound failed
      ]
    ])
