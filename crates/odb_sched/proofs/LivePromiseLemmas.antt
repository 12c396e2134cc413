-- What every live run keeps of its requests.
use Rattle.std.proofs.Common.{◌≡◌, ℕ, ◌<◌, ◌≤◌, ◌+◌, ◌∙◌, ◌⊎◌, ◌↔◌, ◌≢◌, sym, refl, ap, subst, arith, Bool, true, false, ◌||◌, List, [], ◌∷◌, length, inl, inr, Contains}
use Rattle.std.specs.List.{list_any}
use Rattle.std.proofs.lemmas.Bool.{cases_eq, both_ways, true≢false, false_from_ne_true}
use Rattle.std.proofs.lemmas.List.Elements.{Contains-get_or}
use Rattle.odb_doc.specs.batch.Records.{Record}
use Rattle.odb_doc.specs.declared.recorded.outcome.Outcome.{Outcome}
use Rattle.odb_doc.specs.Statuses.{is_error}
use Rattle.odb_doc.proofs.ElementLemmas.{Contains-cases}
use Rattle.odb_check.specs.declared.need.Need.{Need}
use Rattle.odb_check.specs.declared.need.Need.TheVariants.{One, Group}
use Rattle.odb_check.specs.Plans.{batch_plan_graph}
use Rattle.odb_check.specs.PlanGraph.{PlanGraph, HasNamesAsNeeds, IsPlan, IsPlanGraphOf, unit_of, needs_of, unit_needed}
use Rattle.odb_check.specs.Units.{unit_at}
use Rattle.odb_check.proofs.PositionLemmas.{id_within, group_within}
use Rattle.odb_sched.specs.declared.event.Event.TheVariants.{Start, Report}
use Rattle.odb_sched.specs.declared.phase.Phase.TheVariants.{Unstarted, Reported}
use Rattle.odb_sched.specs.declared.policy.Mode.TheVariants as modes
use Rattle.odb_sched.specs.declared.policy.Policy.{Policy}
use Rattle.odb_sched.specs.run.State.{State, has_erred, has_succeeded, is_reported, is_unstarted, phase_at}
use Rattle.odb_sched.specs.run.Steps.{all_satisfied, is_satisfied, is_stopped}
use Rattle.odb_sched.specs.run.Units.{outer_satisfied}
use Rattle.odb_sched.specs.run.Laws.{HasSuccess, HoldsOfNamed}
use Rattle.odb_sched.specs.run.LiveEvents.{LiveEvent, Single, StartUnit, Stop, after_live, after_all_live, first_live, IsLiveRun, IsLiveRunFrom, may_take, singles, live_state}
use Rattle.odb_sched.specs.run.LiveLaws.{sent_count, single_count, SendsAsOne, StartsIt, StartsAfterNamed, StartsNothingOnceStopped}
use Rattle.odb_sched.specs.invariants.Kept.{IsReached}
use Rattle.odb_sched.proofs.BeginLemmas.{may_begin-parts}
use Rattle.odb_sched.proofs.BelowLemmas.{list_all-each, list_any-from}
use Rattle.odb_sched.proofs.LiveLemmas.{IsPopulated, cut_live, plan_graph-after_all_live, policy-after_all_live, populated, reached_after_all_live, reported_among, reported_within, success_live}
use Rattle.odb_sched.proofs.LivePhaseLemmas.{reported_in, started_among, started_in}
use Rattle.odb_sched.proofs.LiveWidthLemmas.{width_live}
use Rattle.odb_sched.proofs.OuterLemmas.{outer-each}
use Rattle.odb_sched.proofs.PhaseLemmas.{get_or-replicate_Unstarted}
use Rattle.odb_sched.proofs.ReachedLemmas.{reached_first}
use Rattle.odb_sched.proofs.SatisfiedLemmas.{member_succeeded}
use Rattle.odb_sched.proofs.StartLemmas.{may_start-parts}

-- what holds of the needs of a request holds of all that it names
by_needs : (requests : List Record) (plan : PlanGraph) (i : ℕ) (holds : ℕ → Type 0) → IsPlanGraphOf requests plan → HasNamesAsNeeds requests plan
    → ((r : ℕ) → r < length requests → Contains (needs_of plan i) (One r) → holds r) → ((j : ℕ) → j < length requests → Contains (needs_of plan i) (Group (unit_of plan j)) → holds j) → HoldsOfNamed requests i holds
by_needs requests plan i holds graph named one group = record {
  ids = λ name r has at. one r (id_within requests r name at) (named.names_id i name r has at);
  groups = λ name j has at. group j (group_within requests j name at) (named.names_group i name j has at);
  references = λ name r refers at. one r (id_within requests r name at) (named.refers i name r refers at);
}

pub also : (requests : List Record) (i : ℕ) (holds other : ℕ → Type 0) → ((r : ℕ) → holds r → other r) → HoldsOfNamed requests i holds → HoldsOfNamed requests i other
also requests i holds other more of = record {
  ids = λ name r has at. more r (of.ids name r has at);
  groups = λ name j has at. more j (of.groups name j has at);
  references = λ name r refers at. more r (of.references name r refers at);
}

module _ (requests : List Record) (state : State) (graph : IsPlanGraphOf requests state.plan_graph) (named : HasNamesAsNeeds requests state.plan_graph) where
  -- what a request names whose needs are satisfied has succeeded
  pub named_single : (i : ℕ) → all_satisfied state i ≡ true → HoldsOfNamed requests i (λ r. has_succeeded (phase_at state r) ≡ true)
  named_single i all = by_needs requests state.plan_graph i (λ r. has_succeeded (phase_at state r) ≡ true) graph named
      (λ r within has. list_all-each (is_satisfied state) (needs_of state.plan_graph i) (One r) all has)
      (λ j within has. member_succeeded state.plan_graph state.phases (unit_of state.plan_graph j) j (list_all-each (is_satisfied state) (needs_of state.plan_graph i) (Group (unit_of state.plan_graph j)) all has) (subst (λ n. j < n) (sym graph.size) within) refl)

  -- what a member of a unit names that may begin has succeeded, or is in the unit
  named_member : (u i : ℕ) → outer_satisfied state u ≡ true → i < length requests → unit_at requests i ≡ u → HoldsOfNamed requests i (λ r. (unit_at requests r ≡ u) ⊎ (has_succeeded (phase_at state r) ≡ true))
  named_member u i outer within here = by_needs requests state.plan_graph i (λ r. (unit_at requests r ≡ u) ⊎ (has_succeeded (phase_at state r) ≡ true)) graph named
      (λ r inside has. elim (cases_eq (unit_at requests r) u) [
        | inl same ↦ inl same
        | inr other ↦ inr (met (One r) has (λ e. other (sym (graph.units r inside) ∙ e)))
      ])
      (λ j inside has. elim (cases_eq (unit_at requests j) u) [
        | inl same ↦ inl same
        | inr other ↦ inr (member_succeeded state.plan_graph state.phases (unit_of state.plan_graph j) j (met (Group (unit_of state.plan_graph j)) has (λ e. other (sym (graph.units j inside) ∙ e))) (subst (λ n. j < n) (sym graph.size) inside) refl)
      ])
    where
      met : (need : Need) → Contains (needs_of state.plan_graph i) need → unit_needed (unit_of state.plan_graph) need ≢ u → is_satisfied state need ≡ true
      met need has other = outer-each state.plan_graph u i need (is_satisfied state) outer (subst (λ n. i < n) (sym graph.size) within) (graph.units i within ∙ here) has other

  -- so what is named of a live event that may come has succeeded, or is sent with it
  named_by : (event : LiveEvent) (i : ℕ) → may_take state event ≡ true → StartsIt requests event i → HoldsOfNamed requests i (λ r. SendsAsOne requests event r ⊎ (has_succeeded (phase_at state r) ≡ true))
  named_by (Single (Start j)) i may starts = subst (λ k. HoldsOfNamed requests k (λ r. ⊥ ⊎ (has_succeeded (phase_at state r) ≡ true))) starts
      (also requests j (λ r. has_succeeded (phase_at state r) ≡ true) (λ r. ⊥ ⊎ (has_succeeded (phase_at state r) ≡ true)) (λ r done. inr done) (named_single j (may_start-parts state j may).satisfied))
  named_by (Single (Report j outcome)) i may starts = absurd starts
  named_by (StartUnit u) i may starts = named_member u i (may_begin-parts state u may).satisfied starts.0 starts.1
  named_by Stop i may starts = absurd starts

-- ---- what stops a run

closed_stays : (state : State) (events : List LiveEvent) → state.closed ≡ true → (after_all_live state events).closed ≡ true
closed_stays state [] closed = closed
closed_stays state (e ∷ es) closed = closed_stays (after_live state e) es (at e)
  where
    at : (e : LiveEvent) → (after_live state e).closed ≡ true
    at (Single (Start i)) = closed
    at (Single (Report i outcome)) = closed
    at (StartUnit u) = closed
    at Stop = refl

closed_by : (state : State) (events : List LiveEvent) → Contains events Stop → (after_all_live state events).closed ≡ true
closed_by state [] (k, less, is) = absurd (omega (arith, less))
closed_by state (e ∷ es) has = elim (Contains-cases e Stop es has) [
  | inl now ↦ closed_stays (after_live state e) es (ap (λ (event : LiveEvent). (after_live state event).closed) now)
  | inr later ↦ closed_by (after_live state e) es later
]

stopped_by_error : (state : State) (r : ℕ) (outcome : Outcome) → state.policy.mode ≡ modes.Stop → phase_at state r ≡ Reported outcome → is_error outcome.status ≡ true → is_stopped state ≡ true
stopped_by_error state r outcome mode is error =
    let among : Contains state.phases (Reported outcome) = subst (Contains state.phases) is (Contains-get_or state.phases r Unstarted (reported_within state r outcome is)) in
    let erred : list_any has_erred state.phases ≡ true = list_any-from has_erred state.phases (Reported outcome) among error in
    rw (mode, erred) (at state.closed)
  where
    at : (b : Bool) → (b || true) ≡ true
    at true = refl
    at false = refl

going : (requests : List Record) (state : State) (event : LiveEvent) (i : ℕ) → may_take state event ≡ true → StartsIt requests event i → is_stopped state ≡ false
going requests state (Single (Start j)) i may starts = (may_start-parts state j may).unstopped
going requests state (Single (Report j outcome)) i may starts = absurd starts
going requests state (StartUnit u) i may starts = (may_begin-parts state u may).unstopped
going requests state Stop i may starts = absurd starts

-- ---- from the first event on

module _ (requests : List Record) (policy : Policy) (laws : IsPlan (batch_plan_graph requests)) (graph : IsPlanGraphOf requests (batch_plan_graph requests)) (named : HasNamesAsNeeds requests (batch_plan_graph requests)) where
  abbrev first : State
  first = first_live requests policy

  some : IsPopulated (batch_plan_graph requests)
  some = populated requests (batch_plan_graph requests) graph

  reached : IsReached first
  reached = reached_first (batch_plan_graph requests) policy laws

  pub reached_live : (events : List LiveEvent) → IsLiveRun requests policy events → IsReached (live_state requests policy events)
  reached_live events run = reached_after_all_live first events some reached run

  success_so_far : (before : List LiveEvent) (r : ℕ) → has_succeeded (phase_at (after_all_live first before) r) ≡ true → HasSuccess (singles before) r
  success_so_far before r done = elim (success_live first before r done) [
    | inl early ↦ absurd (both_ways _ (ap has_succeeded (get_or-replicate_Unstarted (length (batch_plan_graph requests).units) r)) early)
    | inr among ↦ among
  ]

  pub starts_after_named : (events : List LiveEvent) → IsLiveRun requests policy events → StartsAfterNamed requests events
  starts_after_named events run before later event i whole starts =
      let parts = cut_live first before later event (subst (IsLiveRunFrom first) whole run) in
      let same = plan_graph-after_all_live first before in
      also requests i (λ r. SendsAsOne requests event r ⊎ (has_succeeded (phase_at (after_all_live first before) r) ≡ true)) (λ r. SendsAsOne requests event r ⊎ HasSuccess (singles before) r)
      (λ r either. elim either [ inl with ↦ inl with | inr done ↦ inr (success_so_far before r done) ])
      (named_by requests (after_all_live first before) (subst (IsPlanGraphOf requests) (sym same) graph) (subst (HasNamesAsNeeds requests) (sym same) named) event i parts.may starts)

  pub starts_nothing : (events : List LiveEvent) → IsLiveRun requests policy events → StartsNothingOnceStopped requests policy events
  starts_nothing events run before later event i whole starts =
      let parts = cut_live first before later event (subst (IsLiveRunFrom first) whole run) in
      let last = after_all_live first before in
      let unstopped = going requests last event i parts.may starts in (
        (λ stop. both_ways (is_stopped last) unstopped (rw (closed_by first before stop) refl)),
        (λ mode r outcome has. false_from_ne_true (is_error outcome.status) (λ error.
            both_ways (is_stopped last) unstopped (stopped_by_error last r outcome (ap (λ (p : Policy). p.mode) (policy-after_all_live first before) ∙ mode) (reported_among first before r outcome some reached parts.run has) error))),
      )

  pub within_width : (events : List LiveEvent) → IsLiveRun requests policy events → single_count (live_state requests policy events) events + sent_count (live_state requests policy events) events ≤ policy.width
  within_width events run = subst (λ (p : Policy). single_count (live_state requests policy events) events + sent_count (live_state requests policy events) events ≤ p.width) (policy-after_all_live first events)
      (width_live (batch_plan_graph requests) policy events laws some run (reached_live events run))

  pub started_by_events : (events : List LiveEvent) → IsLiveRun requests policy events → (i : ℕ) → i < length requests
      → (is_unstarted (phase_at (live_state requests policy events) i) ≡ false) ↔ ((event : LiveEvent) × Contains events event × StartsIt requests event i)
  started_by_events events run i within = (
    (λ begun. elim (started_in requests i within first events graph run begun) [
      | inl early ↦ absurd (both_ways _ early (ap is_unstarted (get_or-replicate_Unstarted (length (batch_plan_graph requests).units) i)))
      | inr among ↦ among
    ]),
    (λ among. started_among requests i within first events among.0 graph some reached run among.1 among.2),
  )

  pub reported_by_events : (events : List LiveEvent) → IsLiveRun requests policy events → (i : ℕ) (outcome : Outcome) → (phase_at (live_state requests policy events) i ≡ Reported outcome) ↔ Contains (singles events) (Report i outcome)
  reported_by_events events run i outcome = (
    (λ is. elim (reported_in first events i outcome is) [
      | inl early ↦ absurd (true≢false (sym (ap is_reported early) ∙ ap is_reported (get_or-replicate_Unstarted (length (batch_plan_graph requests).units) i)))
      | inr among ↦ among
    ]),
    reported_among first events i outcome some reached run,
  )
