-- Live runs by their parts: what holds of a state along a live run.
use Rattle.std.proofs.Common.{◌≡◌, ℕ, zero, suc, ◌<◌, ◌≤◌, ◌∙◌, ◌⊎◌, sym, refl, ap, subst, arith, Bool, true, false, cond, List, [], ◌∷◌, ◌++◌, length, get_or, inl, inr, eq-eqb, ◌==◌, Contains}
use Rattle.std.proofs.lemmas.Bool.{cases_Bool, cases_eq, cases_lt, both_ways, true≢false}
use Rattle.std.proofs.lemmas.List.{get_or_past}
use Rattle.std.proofs.lemmas.List.Elements.{Contains-append_left, Contains-append_right}
use Rattle.odb_doc.specs.batch.Records.{Record}
use Rattle.odb_doc.specs.declared.recorded.outcome.Outcome.{Outcome}
use Rattle.odb_doc.proofs.ElementLemmas.{Contains-cases}
use Rattle.odb_check.specs.Firsts.{count_below}
use Rattle.odb_check.specs.PlanGraph.{PlanGraph, IsPlanGraphOf, unit_of}
use Rattle.odb_check.specs.Units.{begins_unit}
use Rattle.odb_check.proofs.BelowLemmas.{length-list_below}
use Rattle.odb_check.proofs.UnitLemmas.{unit_at_begin}
use Rattle.odb_sched.specs.declared.event.Event.{Event}
use Rattle.odb_sched.specs.declared.event.Event.TheVariants.{Start, Report}
use Rattle.odb_sched.specs.declared.phase.Phase.{Phase}
use Rattle.odb_sched.specs.declared.phase.Phase.TheVariants.{Unstarted, Reported}
use Rattle.odb_sched.specs.run.State.{State, after, has_succeeded, is_reported, is_unstarted, members_in, phase_at, running_members, size}
use Rattle.odb_sched.specs.run.Laws.{HasSuccess}
use Rattle.odb_sched.specs.run.LiveEvents.{LiveEvent, Single, StartUnit, Stop, after_live, after_all_live, IsKnownTo, IsLiveRunFrom, may_take, singles}
use Rattle.odb_sched.specs.invariants.Kept.{IsReached}
use Rattle.odb_sched.proofs.BeginLemmas.{may_begin-parts, member_unstarted}
use Rattle.odb_sched.proofs.EventLemmas.{move_report, move_start, success_by}
use Rattle.odb_sched.proofs.MemberLemmas.{member_runs, other_stays}
use Rattle.odb_sched.proofs.ReachedLemmas.{reached_after, reached_closed}
use Rattle.odb_sched.proofs.RunLemmas.{plan_graph-after}
use Rattle.odb_sched.proofs.WholeLemmas.{sent}

-- ---- each unit has a member

-- each number of those that pass is that of one that passes
numbered : (test : ℕ → Bool) (n u : ℕ) → u < count_below n test → (k : ℕ) × (k < n) × (test k ≡ true) × (count_below k test ≡ u)
numbered test zero u less = absurd (omega arith)
numbered test (suc n) u less = at (test n) refl (numbered test n u) less
  where
    at : (b : Bool) → test n ≡ b → (u < count_below n test → (k : ℕ) × (k < n) × (test k ≡ true) × (count_below k test ≡ u)) → u < cond b (suc (count_below n test)) (count_below n test)
        → (k : ℕ) × (k < suc n) × (test k ≡ true) × (count_below k test ≡ u)
    at true e earlier more = elim (cases_lt u (count_below n test)) [
      | inl before ↦ let (k, below, passes, is) = earlier before in (k, omega (arith, below), passes, is)
      | inr last ↦ (n, omega arith, e, omega (arith, last, more))
    ]
    at false e earlier more = let (k, below, passes, is) = earlier more in (k, omega (arith, below), passes, is)

-- some number passes
pub counted : (test : ℕ → Bool) (n k : ℕ) → k < n → test k ≡ true → 0 < count_below n test
counted test zero k below passes = absurd (omega (arith, below))
counted test (suc n) k below passes = elim (cases_Bool (test n)) [
  | inl here ↦ rw here (omega arith)
  | inr fails ↦ elim (cases_eq k n) [
    | inl same ↦ absurd (both_ways (test n) fails (ap test (sym same) ∙ passes))
    | inr other ↦ rw fails (counted test n k (omega (arith, below, other)) passes)
  ]
]

abbrev pub IsPopulated : PlanGraph → Type 0
IsPopulated plan = (u : ℕ) → u < plan.unit_count → 0 < members_in plan u

pub populated : (requests : List Record) (plan : PlanGraph) → IsPlanGraphOf requests plan → IsPopulated plan
populated requests plan graph u inside =
    let (k, below, begins, is) = numbered (begins_unit requests) (length requests) u (subst (λ n. u < n) graph.unit_count inside) in
    counted (λ i. unit_of plan i == u) (length plan.units) k (subst (λ n. k < n) (sym graph.size) below)
    (eq-eqb (unit_of plan k) u (graph.units k below ∙ unit_at_begin requests k begins ∙ is))

-- ---- along the events

pub plan_graph-after_live : (state : State) (event : LiveEvent) → (after_live state event).plan_graph ≡ state.plan_graph
plan_graph-after_live state (Single event) = plan_graph-after state event
plan_graph-after_live state (StartUnit u) = refl
plan_graph-after_live state Stop = refl

pub plan_graph-after_all_live : (state : State) (events : List LiveEvent) → (after_all_live state events).plan_graph ≡ state.plan_graph
plan_graph-after_all_live state [] = refl
plan_graph-after_all_live state (e ∷ es) = plan_graph-after_all_live (after_live state e) es ∙ plan_graph-after_live state e

policy-after_live : (state : State) (event : LiveEvent) → (after_live state event).policy ≡ state.policy
policy-after_live state (Single (Start i)) = refl
policy-after_live state (Single (Report i outcome)) = refl
policy-after_live state (StartUnit u) = refl
policy-after_live state Stop = refl

pub policy-after_all_live : (state : State) (events : List LiveEvent) → (after_all_live state events).policy ≡ state.policy
policy-after_all_live state [] = refl
policy-after_all_live state (e ∷ es) = policy-after_all_live (after_live state e) es ∙ policy-after_live state e

pub still_populated : (state : State) (event : LiveEvent) → IsPopulated state.plan_graph → IsPopulated (after_live state event).plan_graph
still_populated state event some = subst IsPopulated (sym (plan_graph-after_live state event)) some

pub reached_after_live : (state : State) (event : LiveEvent) → IsPopulated state.plan_graph → IsReached state → IsKnownTo state event → may_take state event ≡ true → IsReached (after_live state event)
reached_after_live state (Single event) some reached known may = reached_after state event reached known may
reached_after_live state (StartUnit u) some reached known may = sent state u reached (may_begin-parts state u may) known (some u known)
reached_after_live state Stop some reached known may = reached_closed state true reached

pub reached_after_all_live : (state : State) (events : List LiveEvent) → IsPopulated state.plan_graph → IsReached state → IsLiveRunFrom state events → IsReached (after_all_live state events)
reached_after_all_live state [] some reached run = reached
reached_after_all_live state (e ∷ es) some reached run =
    reached_after_all_live (after_live state e) es (still_populated state e some) (reached_after_live state e some reached run.0 run.1) run.2

-- a live run that an event is in, cut there
pub record IsLiveCut (state : State) (before : List LiveEvent) (event : LiveEvent) : Type 0 where
  pub run : IsLiveRunFrom state before
  pub known : IsKnownTo (after_all_live state before) event
  pub may : may_take (after_all_live state before) event ≡ true

pub cut_live : (state : State) (before later : List LiveEvent) (event : LiveEvent) → IsLiveRunFrom state (before ++ event ∷ later) → IsLiveCut state before event
cut_live state [] later event run = record { run = tt; known = run.0; may = run.1 }
cut_live state (e ∷ es) later event run =
    let inner = cut_live (after_live state e) es later event run.2 in
    record { run = (run.0, run.1, inner.run); known = inner.known; may = inner.may }

-- ---- what has been reported

reported_unstarted : (phase : Phase) (outcome : Outcome) → phase ≡ Reported outcome → is_unstarted phase ≡ true → ⊥
reported_unstarted phase outcome is fresh = true≢false (sym fresh ∙ ap is_unstarted is)

pub reported_within : (state : State) (r : ℕ) (outcome : Outcome) → phase_at state r ≡ Reported outcome → r < length state.phases
reported_within state r outcome is = elim (cases_lt r (length state.phases)) [
  | inl within ↦ within
  | inr past ↦ absurd (true≢false (sym (ap is_reported is) ∙ ap is_reported (get_or_past state.phases r Unstarted past)))
]

-- a report stays
stays_reported : (state : State) (event : LiveEvent) (r : ℕ) (outcome : Outcome) → IsReached state → IsKnownTo state event → may_take state event ≡ true → phase_at state r ≡ Reported outcome → phase_at (after_live state event) r ≡ Reported outcome
stays_reported state (Single (Start j)) r outcome reached known may is =
    let move = move_start state j reached known may in
    elim (cases_eq r j) [
      | inl same ↦ absurd (true≢false (sym (ap is_reported is) ∙ ap (λ k. is_reported (phase_at state k)) same ∙ ap is_reported move.before_is))
      | inr other ↦ move.others r other ∙ is
    ]
stays_reported state (Single (Report j other)) r outcome reached known may is =
    let move = move_report state j other reached known may in
    elim (cases_eq r j) [
      | inl same ↦ absurd (true≢false (sym (ap is_reported is) ∙ ap (λ k. is_reported (phase_at state k)) same ∙ ap is_reported move.before_is))
      | inr other ↦ move.others r other ∙ is
    ]
stays_reported state (StartUnit u) r outcome reached known may is =
    let within : r < size state = subst (λ n. r < n) reached.each (reported_within state r outcome is) in
    elim (cases_eq (unit_of state.plan_graph r) u) [
      | inl here ↦ absurd (reported_unstarted (phase_at state r) outcome is (member_unstarted state.plan_graph state.phases u r (may_begin-parts state u may).fresh within here))
      | inr elsewhere ↦ other_stays state.plan_graph state.phases u r within elsewhere ∙ is
    ]
stays_reported state Stop r outcome reached known may is = is

all_stay_reported : (state : State) (events : List LiveEvent) (r : ℕ) (outcome : Outcome) → IsPopulated state.plan_graph → IsReached state → IsLiveRunFrom state events → phase_at state r ≡ Reported outcome → phase_at (after_all_live state events) r ≡ Reported outcome
all_stay_reported state [] r outcome some reached run is = is
all_stay_reported state (e ∷ es) r outcome some reached run is =
    all_stay_reported (after_live state e) es r outcome (still_populated state e some) (reached_after_live state e some reached run.0 run.1) run.2 (stays_reported state e r outcome reached run.0 run.1 is)

-- a request has the outcome that is reported of it among the events
pub reported_among : (state : State) (events : List LiveEvent) (r : ℕ) (outcome : Outcome) → IsPopulated state.plan_graph → IsReached state → IsLiveRunFrom state events → Contains (singles events) (Report r outcome) → phase_at (after_all_live state events) r ≡ Reported outcome
reported_among state [] r outcome some reached run (k, less, is) = absurd (omega (arith, less))
reported_among state (e ∷ es) r outcome some reached run has =
    let further : Contains (singles es) (Report r outcome) → phase_at (after_all_live (after_live state e) es) r ≡ Reported outcome =
    reported_among (after_live state e) es r outcome (still_populated state e some) (reached_after_live state e some reached run.0 run.1) run.2 in
    at e run.0 run.1 (all_stay_reported (after_live state e) es r outcome (still_populated state e some) (reached_after_live state e some reached run.0 run.1) run.2) further has
  where
    at : (e : LiveEvent) → IsKnownTo state e → may_take state e ≡ true
        → (phase_at (after_live state e) r ≡ Reported outcome → phase_at (after_all_live (after_live state e) es) r ≡ Reported outcome)
        → (Contains (singles es) (Report r outcome) → phase_at (after_all_live (after_live state e) es) r ≡ Reported outcome)
        → Contains (singles (e ∷ es)) (Report r outcome) → phase_at (after_all_live (after_live state e) es) r ≡ Reported outcome
    at (Single event) known may stays further has = elim (Contains-cases event (Report r outcome) (singles es) has) [
      | inl now ↦ stays (here event now known may)
      | inr later ↦ further later
    ]
      where
        here : (event : Event) → event ≡ Report r outcome → IsKnownTo state (Single event) → may_take state (Single event) ≡ true → phase_at (after_live state (Single event)) r ≡ Reported outcome
        here event now known may =
            let move = move_report state r outcome reached (subst (λ (e : Event). IsKnownTo state (Single e)) now known) (subst (λ (e : Event). may_take state (Single e) ≡ true) now may) in
            ap (λ (e : Event). phase_at (after state e) r) now ∙ move.after_is
    at (StartUnit u) known may stays further has = further has
    at Stop known may stays further has = further has

-- ---- what has succeeded

unit_success : (plan : PlanGraph) (phases : List Phase) (u r : ℕ) → has_succeeded (get_or (running_members plan phases u) r Unstarted) ≡ true → has_succeeded (get_or phases r Unstarted) ≡ true
unit_success plan phases u r done = elim (cases_lt r (length plan.units)) [
  | inl within ↦ elim (cases_eq (unit_of plan r) u) [
    | inl here ↦ absurd (true≢false (sym done ∙ ap has_succeeded (member_runs plan phases u r within here)))
    | inr elsewhere ↦ ap has_succeeded (sym (other_stays plan phases u r within elsewhere)) ∙ done
  ]
  | inr past ↦ absurd (true≢false (sym done ∙ ap has_succeeded (get_or_past (running_members plan phases u) r Unstarted (subst (λ n. n ≤ r) (sym (length-list_below (length plan.units) _)) past))))
]

-- what has succeeded after live events had before them, or is reported so among them
pub success_live : (state : State) (events : List LiveEvent) (r : ℕ) → has_succeeded (phase_at (after_all_live state events) r) ≡ true → (has_succeeded (phase_at state r) ≡ true) ⊎ HasSuccess (singles events) r
success_live state [] r done = inl done
success_live state (e ∷ es) r done = at e (success_live (after_live state e) es r done)
  where
    at : (e : LiveEvent) → (has_succeeded (phase_at (after_live state e) r) ≡ true) ⊎ HasSuccess (singles es) r → (has_succeeded (phase_at state r) ≡ true) ⊎ HasSuccess (singles (e ∷ es)) r
    at (Single event) (inl early) = elim (success_by state event r early) [
      | inl before ↦ inl before
      | inr now ↦ inr (now.0, Contains-append_left (event ∷ []) (singles es) (Report r now.0) (0, omega arith, now.1), now.2)
    ]
    at (Single event) (inr later) = inr (later.0, Contains-append_right (event ∷ []) (singles es) (Report r later.0) later.1, later.2)
    at (StartUnit u) (inl early) = inl (unit_success state.plan_graph state.phases u r early)
    at (StartUnit u) (inr later) = inr later
    at Stop (inl early) = inl early
    at Stop (inr later) = inr later

-- ---- one event more

pub after_all_live-append : (state : State) (events more : List LiveEvent) → after_all_live state (events ++ more) ≡ after_all_live (after_all_live state events) more
after_all_live-append state [] more = refl
after_all_live-append state (e ∷ es) more = after_all_live-append (after_live state e) es more

-- a live run continues with live events that may come after it
pub live_run-append : (state : State) (events more : List LiveEvent) → IsLiveRunFrom state events → IsLiveRunFrom (after_all_live state events) more → IsLiveRunFrom state (events ++ more)
live_run-append state [] more one other = other
live_run-append state (e ∷ es) more one other = (one.0, one.1, live_run-append (after_live state e) es more one.2 other)
