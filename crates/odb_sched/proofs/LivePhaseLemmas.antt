-- What has become of a request in a live run: whether it has started, and what it has reported.
use Rattle.std.proofs.Common.{◌≡◌, ◌∙◌, ◌⊎◌, ℕ, ◌<◌, ◌≤◌, refl, sym, ap, subst, arith, true, false, List, [], ◌∷◌, length, get_or, inl, inr, set, Contains}
use Rattle.std.proofs.lemmas.Bool.{and_parts, cases_eq, cases_lt, true≢false}
use Rattle.std.proofs.lemmas.List.{get_or_past}
use Rattle.odb_doc.specs.batch.Records.{Record}
use Rattle.odb_doc.specs.declared.recorded.outcome.Outcome.{Outcome}
use Rattle.odb_doc.specs.Statuses.{is_status}
use Rattle.odb_doc.proofs.ElementLemmas.{Contains-cases, Contains-head, Contains-tail}
use Rattle.odb_check.specs.PlanGraph.{PlanGraph, IsPlanGraphOf, unit_of}
use Rattle.odb_check.proofs.BelowLemmas.{length-list_below}
use Rattle.odb_sched.specs.declared.event.Event.TheVariants.{Start, Report}
use Rattle.odb_sched.specs.declared.phase.Phase.{Phase}
use Rattle.odb_sched.specs.declared.phase.Phase.TheVariants.{Unstarted, Running, Reported}
use Rattle.odb_sched.specs.run.State.{State, is_reported, is_running, is_unstarted, phase_at, running_members}
use Rattle.odb_sched.specs.run.LiveEvents.{LiveEvent, Single, StartUnit, Stop, after_live, after_all_live, IsKnownTo, IsLiveRunFrom, may_take, singles}
use Rattle.odb_sched.specs.run.LiveLaws.{StartsIt}
use Rattle.odb_sched.specs.invariants.Kept.{IsReached}
use Rattle.odb_sched.proofs.EventLemmas.{move_start, reported_by}
use Rattle.odb_sched.proofs.LiveLemmas.{IsPopulated, plan_graph-after_live, reached_after_live, still_populated}
use Rattle.odb_sched.proofs.MemberLemmas.{member_runs, other_stays}
use Rattle.odb_sched.proofs.PhaseLemmas.{Running-from, get_or-set_cases}

-- ---- what it has reported

reported_before : (plan : PlanGraph) (phases : List Phase) (u r : ℕ) (outcome : Outcome) → get_or (running_members plan phases u) r Unstarted ≡ Reported outcome → get_or phases r Unstarted ≡ Reported outcome
reported_before plan phases u r outcome is = elim (cases_lt r (length plan.units)) [
  | inl within ↦ elim (cases_eq (unit_of plan r) u) [
    | inl here ↦ absurd (true≢false (sym (ap is_reported is) ∙ ap is_reported (member_runs plan phases u r within here)))
    | inr elsewhere ↦ sym (other_stays plan phases u r within elsewhere) ∙ is
  ]
  | inr past ↦ absurd (true≢false (sym (ap is_reported is) ∙ ap is_reported (get_or_past (running_members plan phases u) r Unstarted (subst (λ n. n ≤ r) (sym (length-list_below (length plan.units) _)) past))))
]

pub reported_in : (state : State) (events : List LiveEvent) (r : ℕ) (outcome : Outcome) → phase_at (after_all_live state events) r ≡ Reported outcome → (phase_at state r ≡ Reported outcome) ⊎ Contains (singles events) (Report r outcome)
reported_in state [] r outcome is = inl is
reported_in state (e ∷ es) r outcome is = at e (reported_in (after_live state e) es r outcome is)
  where
    at : (e : LiveEvent) → (phase_at (after_live state e) r ≡ Reported outcome) ⊎ Contains (singles es) (Report r outcome) → (phase_at state r ≡ Reported outcome) ⊎ Contains (singles (e ∷ es)) (Report r outcome)
    at (Single event) (inl early) = elim (reported_by state event r outcome early) [
      | inl before ↦ inl before
      | inr now ↦ inr (0, omega arith, now)
    ]
    at (Single event) (inr later) = inr (Contains-tail event (Report r outcome) (singles es) later)
    at (StartUnit u) (inl early) = inl (reported_before state.plan_graph state.phases u r outcome early)
    at (StartUnit u) (inr later) = inr later
    at Stop (inl early) = inl early
    at Stop (inr later) = inr later

-- ---- whether it has started

module _ (requests : List Record) (i : ℕ) (within : i < length requests) where
  -- a live event that starts a request that had not started
  started_by : (state : State) (e : LiveEvent) → IsPlanGraphOf requests state.plan_graph → may_take state e ≡ true → is_unstarted (phase_at (after_live state e) i) ≡ false → (is_unstarted (phase_at state i) ≡ false) ⊎ StartsIt requests e i
  started_by state (Single (Start j)) graph may begun = elim (get_or-set_cases state.phases j i Running) [
    | inl written ↦ inr (sym written.0)
    | inr kept ↦ inl (ap is_unstarted (sym kept) ∙ begun)
  ]
  started_by state (Single (Report j outcome)) graph may begun = elim (get_or-set_cases state.phases j i (Reported outcome)) [
    | inl written ↦ inl (ap is_unstarted (ap (phase_at state) written.0 ∙ Running-from (phase_at state j) (and_parts (is_running (phase_at state j)) (is_status outcome.status) may).0))
    | inr kept ↦ inl (ap is_unstarted (sym kept) ∙ begun)
  ]
  started_by state (StartUnit u) graph may begun = elim (cases_eq (unit_of state.plan_graph i) u) [
    | inl here ↦ inr (within, sym (graph.units i within) ∙ here)
    | inr elsewhere ↦ inl (ap is_unstarted (sym (other_stays state.plan_graph state.phases u i (subst (λ n. i < n) (sym graph.size) within) elsewhere)) ∙ begun)
  ]
  started_by state Stop graph may begun = inl begun

  pub started_in : (state : State) (events : List LiveEvent) → IsPlanGraphOf requests state.plan_graph → IsLiveRunFrom state events → is_unstarted (phase_at (after_all_live state events) i) ≡ false
      → (is_unstarted (phase_at state i) ≡ false) ⊎ ((event : LiveEvent) × Contains events event × StartsIt requests event i)
  started_in state [] graph run begun = inl begun
  started_in state (e ∷ es) graph run begun = elim (started_in (after_live state e) es (subst (IsPlanGraphOf requests) (sym (plan_graph-after_live state e)) graph) run.2 begun) [
    | inl early ↦ elim (started_by state e graph run.1 early) [
      | inl before ↦ inl before
      | inr now ↦ inr (e, Contains-head e es, now)
    ]
    | inr later ↦ inr (later.0, Contains-tail e later.0 es later.1, later.2)
  ]

  written_started : (phases : List Phase) (j : ℕ) (new : Phase) → is_unstarted new ≡ false → is_unstarted (get_or phases i Unstarted) ≡ false → is_unstarted (get_or (set phases j new) i Unstarted) ≡ false
  written_started phases j new started before = elim (get_or-set_cases phases j i new) [
    | inl written ↦ ap is_unstarted written.1 ∙ started
    | inr kept ↦ ap is_unstarted kept ∙ before
  ]

  stays_started : (state : State) (e : LiveEvent) → IsPlanGraphOf requests state.plan_graph → is_unstarted (phase_at state i) ≡ false → is_unstarted (phase_at (after_live state e) i) ≡ false
  stays_started state (Single (Start j)) graph begun = written_started state.phases j Running refl begun
  stays_started state (Single (Report j outcome)) graph begun = written_started state.phases j (Reported outcome) refl begun
  stays_started state (StartUnit u) graph begun = elim (cases_eq (unit_of state.plan_graph i) u) [
    | inl here ↦ ap is_unstarted (member_runs state.plan_graph state.phases u i (subst (λ n. i < n) (sym graph.size) within) here)
    | inr elsewhere ↦ ap is_unstarted (other_stays state.plan_graph state.phases u i (subst (λ n. i < n) (sym graph.size) within) elsewhere) ∙ begun
  ]
  stays_started state Stop graph begun = begun

  all_stay_started : (state : State) (events : List LiveEvent) → IsPlanGraphOf requests state.plan_graph → is_unstarted (phase_at state i) ≡ false → is_unstarted (phase_at (after_all_live state events) i) ≡ false
  all_stay_started state [] graph begun = begun
  all_stay_started state (e ∷ es) graph begun = all_stay_started (after_live state e) es (subst (IsPlanGraphOf requests) (sym (plan_graph-after_live state e)) graph) (stays_started state e graph begun)

  starts_now : (state : State) (e : LiveEvent) → IsPlanGraphOf requests state.plan_graph → IsReached state → IsKnownTo state e → may_take state e ≡ true → StartsIt requests e i → is_unstarted (phase_at (after_live state e) i) ≡ false
  starts_now state (Single (Start j)) graph reached known may starts =
      let move = move_start state j reached known may in
      subst (λ k. is_unstarted (phase_at (after_live state (Single (Start j))) k) ≡ false) starts (ap is_unstarted move.after_is)
  starts_now state (Single (Report j outcome)) graph reached known may starts = absurd starts
  starts_now state (StartUnit u) graph reached known may starts = ap is_unstarted (member_runs state.plan_graph state.phases u i (subst (λ n. i < n) (sym graph.size) within) (graph.units i within ∙ starts.1))
  starts_now state Stop graph reached known may starts = absurd starts

  pub started_among : (state : State) (events : List LiveEvent) (event : LiveEvent) → IsPlanGraphOf requests state.plan_graph → IsPopulated state.plan_graph → IsReached state → IsLiveRunFrom state events → Contains events event → StartsIt requests event i
      → is_unstarted (phase_at (after_all_live state events) i) ≡ false
  started_among state [] event graph some reached run (k, less, is) starts = absurd (omega (arith, less))
  started_among state (e ∷ es) event graph some reached run has starts =
      let more = subst (IsPlanGraphOf requests) (sym (plan_graph-after_live state e)) graph in
      elim (Contains-cases e event es has) [
        | inl now ↦ all_stay_started (after_live state e) es more (starts_now state e graph reached run.0 run.1 (subst (λ (x : LiveEvent). StartsIt requests x i) (sym now) starts))
        | inr later ↦ started_among (after_live state e) es event more (still_populated state e some) (reached_after_live state e some reached run.0 run.1) run.2 later starts
      ]
