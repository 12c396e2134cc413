-- Phases in which each request that has started has what it needs are those of some run: in order, each of them starts, and
-- reports at once if it succeeds; afterwards the others report.
use Rattle.std.proofs.Common.{◌≡◌, ℕ, zero, suc, ◌<◌, ◌≤◌, ◌+◌, ◌∙◌, sym, refl, ap, subst, arith, Bool, true, false, List, [], ◌∷◌, ◌++◌, length, count_by, inl, inr, Some, Contains, IsTrue, le_refl, nat_le, nat_lt, if◌then◌else◌}
use Rattle.std.specs.List.{list_any}
use Rattle.std.proofs.lemmas.Bool.{cases_Bool, cases_eq, cases_lt, both_ways, and_from, and_parts, and_right, or_from, false_from_ne_true, leb-true, ltb-true}
use Rattle.std.proofs.lemmas.List.{get_or_default}
use Rattle.odb_doc.specs.declared.recorded.outcome.Outcome.{Outcome}
use Rattle.odb_doc.specs.Statuses.{is_success, is_status, is_error}
use Rattle.odb_check.specs.declared.need.Need.{Need}
use Rattle.odb_check.specs.declared.need.Need.TheVariants.{One, Group}
use Rattle.odb_check.specs.PlanGraph.{PlanGraph, unit_of, needs_of, unit_needed}
use Rattle.odb_sched.specs.declared.phase.Phase.{Phase}
use Rattle.odb_sched.specs.declared.phase.Phase.TheVariants.{Unstarted, Running, Reported}
use Rattle.odb_sched.specs.declared.event.Event.{Event}
use Rattle.odb_sched.specs.declared.event.Event.TheVariants.{Start, Report}
use Rattle.odb_sched.specs.run.State.{State, size, phase_at, is_unstarted, is_running, has_succeeded, has_failed, has_erred, started, reported, after}
use Rattle.odb_sched.specs.run.Failing.{Fails, own, propagated}
use Rattle.odb_sched.specs.run.Steps.{stops, unit_failed, is_satisfied, spare_in, may_start, may_come}
use Rattle.odb_sched.specs.run.Runs.{event_position, after_all, IsRunFrom}
use Rattle.odb_sched.specs.run.Answers.{outcome_of}
use Rattle.odb_sched.specs.invariants.Kept.{IsReached}
use Rattle.odb_sched.proofs.BelowLemmas.{list_any-some, list_all-from}
use Rattle.odb_sched.proofs.FailingLemmas.{Fails-from_fails}
use Rattle.odb_sched.proofs.SatisfiedLemmas.{succeeded_in-from}
use Rattle.odb_sched.proofs.StartLemmas.{may_start-from, fewer_run}
use Rattle.odb_sched.proofs.EventLemmas.{move_start, move_report}
use Rattle.odb_sched.proofs.ReachedLemmas.{reached_after}
use Rattle.odb_sched.proofs.RunLemmas.{after_all-push, joined}

-- what is needed has succeeded in these phases
abbrev pub HasIn : PlanGraph → (ℕ → Phase) → Need → Type 0
HasIn plan ends (One r) = has_succeeded (ends r) ≡ true
HasIn plan ends (Group u) = (j : ℕ) → j < length plan.units → unit_of plan j ≡ u → has_succeeded (ends j) ≡ true

-- none runs in these phases, what was reported is a status, and what has started has what it needs
pub record IsEnd (plan : PlanGraph) (ends : ℕ → Phase) : Type 0 where
  pub over : (i : ℕ) → is_running (ends i) ≡ false
  pub statuses : (i : ℕ) (outcome : Outcome) → i < length plan.units → outcome_of (ends i) ≡ Some outcome → IsTrue (is_status outcome.status)
  pub needs : (i : ℕ) (need : Need) → i < length plan.units → is_unstarted (ends i) ≡ false → Contains (needs_of plan i) need → HasIn plan ends need

-- a run after which this holds
pub record Reaches (first : State) (Holds : State → Type 0) : Type 0 where
  pub events : List Event
  pub run : IsRunFrom first events
  pub holds : Holds (after_all first events)

-- one event more
further : (first : State) (Holds : State → Type 0) (events : List Event) (event : Event) → IsRunFrom first events → event_position event < size (after_all first events) → may_come (after_all first events) event ≡ true → Holds (after (after_all first events) event) → Reaches first Holds
further first Holds events event run within may holds = record { events = events ++ event ∷ []; run = joined first events event run within may; holds = subst Holds (sym (after_all-push first events event)) holds }

-- ---- before anything but successes is reported

-- what becomes of a request at first
abbrev pub early : Phase → Phase
early Unstarted = Unstarted
early Running = Running
early (Reported outcome) = if is_success outcome.status then Reported outcome else Running

pub early-succeeded : (phase : Phase) → has_succeeded phase ≡ true → early phase ≡ phase
early-succeeded (Reported outcome) good = rw good refl
early-succeeded phase good = absurd (cc)

no_error : (status : ℕ) → is_success status ≡ true → is_error status ≡ false
no_error status good = false_from_ne_true _ (λ e.
    let low : status < 300 = ltb-true status 300 (and_parts (nat_le 200 status) (nat_lt status 300) good).1 in
    let high : 400 ≤ status = leb-true 400 status (and_parts (nat_le 400 status) (nat_lt status 600) e).0 in
    omega (arith, low, high))

early-sound : (phase : Phase) → (has_failed (early phase) ≡ false) × (has_erred (early phase) ≡ false)
early-sound Unstarted = (refl, refl)
early-sound Running = (refl, refl)
early-sound (Reported outcome) = elim (cases_Bool (is_success outcome.status)) [
  | inl good ↦ (rw (good, good) refl, rw good (no_error outcome.status good))
  | inr poor ↦ (rw poor refl, rw poor refl)
]

-- the requests below k have come so far, and no other has started
pub record IsEarly (n : ℕ) (ends : ℕ → Phase) (k : ℕ) (state : State) : Type 0 where
  pub reached : IsReached state
  pub going : state.closed ≡ false
  pub wide : state.policy.width ≡ 10000
  pub sized : size state ≡ n
  pub can : IsEnd state.plan_graph ends
  pub below : (i : ℕ) → i < k → phase_at state i ≡ early (ends i)
  pub beyond : (i : ℕ) → k ≤ i → phase_at state i ≡ Unstarted

pub sound_at : (n : ℕ) (ends : ℕ → Phase) (k : ℕ) (state : State) (i : ℕ) → IsEarly n ends k state → (has_failed (phase_at state i) ≡ false) × (has_erred (phase_at state i) ≡ false)
sound_at n ends k state i early_in = elim (cases_lt i k) [
  | inl before ↦ rw (early_in.below i before) (early-sound (ends i))
  | inr later ↦ rw (early_in.beyond i later) (refl, refl)
]

pub none_erred : (state : State) → ((i : ℕ) → has_erred (phase_at state i) ≡ false) → list_any has_erred state.phases ≡ false
none_erred state sound = false_from_ne_true _ (λ e.
    let (phase, (i, within, at), erred) = list_any-some has_erred state.phases e in
    both_ways _ (sound i) (ap has_erred (get_or_default state.phases i Unstarted phase within ∙ at) ∙ erred))

no_bad : (plan : PlanGraph) (bad : ℕ → Bool) (u : ℕ) → ((i : ℕ) → bad i ≡ false) → Fails plan bad u → ⊥
no_bad plan bad _ none (own i within is_bad) = both_ways _ (none i) is_bad
no_bad plan bad _ none (propagated i need within has other failing) = no_bad plan bad (unit_needed (unit_of plan) need) none failing

pub none_failed : (state : State) (u : ℕ) → ((i : ℕ) → has_failed (phase_at state i) ≡ false) → unit_failed state u ≡ false
none_failed state u sound = false_from_ne_true _ (λ e.
    no_bad state.plan_graph (λ i. has_failed (phase_at state i)) u sound
    (Fails-from_fails state.plan_graph (λ i. has_failed (phase_at state i)) u e))

succeeded_at : (n : ℕ) (ends : ℕ → Phase) (k : ℕ) (state : State) (r : ℕ) → IsEarly n ends k state → r < k → has_succeeded (ends r) ≡ true → has_succeeded (phase_at state r) ≡ true
succeeded_at n ends k state r early_in before good = ap has_succeeded (early_in.below r before ∙ early-succeeded (ends r) good) ∙ good

satisfied_at : (n : ℕ) (ends : ℕ → Phase) (k : ℕ) (state : State) (need : Need) → IsEarly n ends k state → k < size state → Contains (needs_of state.plan_graph k) need → HasIn state.plan_graph ends need → is_satisfied state need ≡ true
satisfied_at n ends k state (One r) early_in within has good = succeeded_at n ends k state r early_in (early_in.reached.laws.earlier k (One r) within has) good
satisfied_at n ends k state (Group u) early_in within has good =
    let earlier : u < unit_of state.plan_graph k = early_in.reached.laws.earlier k (Group u) within has in
    succeeded_in-from state.plan_graph state.phases u (λ j inside here. elim (cases_lt j k) [
      | inl before ↦ succeeded_at n ends k state j early_in before (good j inside here)
      | inr later ↦
          let ordered : unit_of state.plan_graph k ≤ unit_of state.plan_graph j = early_in.reached.laws.in_order k j later inside in
          absurd (omega (arith, earlier, ordered, here))
    ])

may_start_at : (n : ℕ) (ends : ℕ → Phase) (k : ℕ) (state : State) → IsEarly n ends k state → k < size state → is_unstarted (ends k) ≡ false → may_start state k ≡ true
may_start_at n ends k state early_in within begun =
    let fresh : phase_at state k ≡ Unstarted = early_in.beyond k (le_refl k) in
    let each : length state.phases ≡ size state = early_in.reached.each in
    let few : size state ≤ 10000 = early_in.reached.laws.few in
    let wide : state.policy.width ≡ 10000 = early_in.wide in
    let fewer : count_by is_running state.phases < length state.phases = fewer_run state.phases k (omega (arith, each, within)) (ap is_running fresh) in
    let room : count_by is_running state.phases < state.policy.width + spare_in state.awaited = omega (arith, fewer, each, few, wide) in
    may_start-from state k (record {
      fresh = ap is_unstarted fresh;
      unstopped = or_from _ _ early_in.going (and_right (stops state.policy.mode) _ (none_erred state (λ i. (sound_at n ends k state i early_in).1)));
      sound = none_failed state (unit_of state.plan_graph k) (λ i. (sound_at n ends k state i early_in).0);
      satisfied = list_all-from (is_satisfied state) (needs_of state.plan_graph k) (λ need has. satisfied_at n ends k state need early_in within has (early_in.can.needs k need within begun has));
      room = room;
    })

-- ---- one request after another

-- the request at k was not to start
skipped : (n : ℕ) (ends : ℕ → Phase) (k : ℕ) (state : State) → IsEarly n ends k state → ends k ≡ Unstarted → IsEarly n ends (suc k) state
skipped n ends k state early_in idle = record {
  reached = early_in.reached;
  going = early_in.going;
  wide = early_in.wide;
  sized = early_in.sized;
  can = early_in.can;
  below = λ i before. elim (cases_eq i k) [
    | inl same ↦ rw (same, idle) (early_in.beyond k (le_refl k))
    | inr other ↦ early_in.below i (omega (arith, before, other))
  ];
  beyond = λ i later. early_in.beyond i (omega (arith, later));
}

-- it has started, and does not report yet
runs_on : (n : ℕ) (ends : ℕ → Phase) (k : ℕ) (state : State) → IsEarly n ends k state → k < size state → may_come state (Start k) ≡ true → early (ends k) ≡ Running → IsEarly n ends (suc k) (started state k)
runs_on n ends k state early_in within may poor =
    let move = move_start state k early_in.reached within may in
    record {
      reached = reached_after state (Start k) early_in.reached within may;
      going = early_in.going;
      wide = early_in.wide;
      sized = early_in.sized;
      can = early_in.can;
      below = λ i before. elim (cases_eq i k) [
        | inl same ↦ rw same (move.after_is ∙ sym poor)
        | inr other ↦ move.others i other ∙ early_in.below i (omega (arith, before, other))
      ];
      beyond = λ i later. move.others i (omega (arith, later)) ∙ early_in.beyond i (omega (arith, later));
    }

-- it has started, and has reported its success
reports_now : (n : ℕ) (ends : ℕ → Phase) (k : ℕ) (outcome : Outcome) (state : State) → IsEarly n ends k state → k < size state → may_come state (Start k) ≡ true → may_come (started state k) (Report k outcome) ≡ true
    → early (ends k) ≡ Reported outcome → IsEarly n ends (suc k) (reported (started state k) k outcome)
reports_now n ends k outcome state early_in within may next good =
    let reached = reached_after state (Start k) early_in.reached within may in
    let move = move_start state k early_in.reached within may in
    let report = move_report (started state k) k outcome reached within next in
    record {
      reached = reached_after (started state k) (Report k outcome) reached within next;
      going = early_in.going;
      wide = early_in.wide;
      sized = early_in.sized;
      can = early_in.can;
      below = λ i before. elim (cases_eq i k) [
        | inl same ↦ rw same (report.after_is ∙ sym good)
        | inr other ↦ report.others i other ∙ move.others i other ∙ early_in.below i (omega (arith, before, other))
      ];
      beyond = λ i later. report.others i (omega (arith, later)) ∙ move.others i (omega (arith, later)) ∙ early_in.beyond i (omega (arith, later));
    }

started_runs : (state : State) (k : ℕ) (outcome : Outcome) → IsReached state → k < size state → may_come state (Start k) ≡ true → is_status outcome.status ≡ true → may_come (started state k) (Report k outcome) ≡ true
started_runs state k outcome reached within may sound = and_from _ _ (ap is_running (move_start state k reached within may).after_is) sound

next_early : (first : State) (n : ℕ) (ends : ℕ → Phase) (k : ℕ) → k < n → Reaches first (IsEarly n ends k) → Reaches first (IsEarly n ends (suc k))
next_early first n ends k below reach = by_phase (ends k) refl
  where
    state : State
    state = after_all first reach.events

    early_in : IsEarly n ends k state
    early_in = reach.holds

    within : k < size state
    within = let sized : size state ≡ n = early_in.sized in omega (arith, sized, below)

    begun : (outcome : Outcome) → ends k ≡ Reported outcome → may_come state (Start k) ≡ true
    begun outcome is = may_start_at n ends k state early_in within (ap is_unstarted is)

    by_success : (outcome : Outcome) (good : Bool) → is_success outcome.status ≡ good → ends k ≡ Reported outcome → Reaches first (IsEarly n ends (suc k))
    by_success outcome true good is =
        let sound : is_status outcome.status ≡ true = early_in.can.statuses k outcome within (ap outcome_of is) in
        let next = started_runs state k outcome early_in.reached within (begun outcome is) sound in
        let one : Reaches first (λ after. after ≡ started state k) = further first (λ after. after ≡ started state k) reach.events (Start k) reach.run within (begun outcome is) refl in
        further first (IsEarly n ends (suc k)) one.events (Report k outcome) one.run
        (subst (λ (s : State). k < size s) (sym one.holds) within) (subst (λ s. may_come s (Report k outcome) ≡ true) (sym one.holds) next)
        (subst (λ s. IsEarly n ends (suc k) (reported s k outcome)) (sym one.holds) (reports_now n ends k outcome state early_in within (begun outcome is) next (rw (is, good) refl)))
    by_success outcome false poor is = further first (IsEarly n ends (suc k)) reach.events (Start k) reach.run within (begun outcome is) (runs_on n ends k state early_in within (begun outcome is) (rw (is, poor) refl))

    by_phase : (phase : Phase) → ends k ≡ phase → Reaches first (IsEarly n ends (suc k))
    by_phase Unstarted is = record { events = reach.events; run = reach.run; holds = skipped n ends k state early_in is }
    by_phase Running is = absurd (both_ways _ (early_in.can.over k) (ap is_running is))
    by_phase (Reported outcome) is = by_success outcome (is_success outcome.status) refl is

pub all_early : (first : State) (n : ℕ) (ends : ℕ → Phase) (k : ℕ) → k ≤ n → IsEarly n ends 0 first → Reaches first (IsEarly n ends k)
all_early first n ends zero below at = record { events = []; run = tt; holds = at }
all_early first n ends (suc k) below at = next_early first n ends k (omega (arith, below)) (all_early first n ends k (omega (arith, below)) at)

-- ---- the other reports

-- what was reported in the end is a status
abbrev pub HaveStatuses : ℕ → (ℕ → Phase) → Type 0
HaveStatuses n ends = (i : ℕ) (outcome : Outcome) → i < n → outcome_of (ends i) ≡ Some outcome → IsTrue (is_status outcome.status)

-- the requests below k have come to their ends
pub record IsLate (n : ℕ) (ends : ℕ → Phase) (k : ℕ) (state : State) : Type 0 where
  pub reached : IsReached state
  pub sized : size state ≡ n
  pub sound : HaveStatuses n ends
  pub below : (i : ℕ) → i < k → phase_at state i ≡ ends i
  pub beyond : (i : ℕ) → k ≤ i → i < n → phase_at state i ≡ early (ends i)

-- the request at k has come to its end already
already : (n : ℕ) (ends : ℕ → Phase) (k : ℕ) (state : State) → IsLate n ends k state → k < n → early (ends k) ≡ ends k → IsLate n ends (suc k) state
already n ends k state late inside over = record {
  reached = late.reached;
  sized = late.sized;
  sound = late.sound;
  below = λ i before. elim (cases_eq i k) [
    | inl same ↦ rw same (late.beyond k (le_refl k) inside ∙ over)
    | inr other ↦ late.below i (omega (arith, before, other))
  ];
  beyond = λ i later within. late.beyond i (omega (arith, later)) within;
}

reports_late : (n : ℕ) (ends : ℕ → Phase) (k : ℕ) (outcome : Outcome) (state : State) → IsLate n ends k state → k < size state → may_come state (Report k outcome) ≡ true → ends k ≡ Reported outcome → IsLate n ends (suc k) (reported state k outcome)
reports_late n ends k outcome state late within may is =
    let report = move_report state k outcome late.reached within may in
    record {
      reached = reached_after state (Report k outcome) late.reached within may;
      sized = late.sized;
      sound = late.sound;
      below = λ i before. elim (cases_eq i k) [
        | inl same ↦ rw same (report.after_is ∙ sym is)
        | inr other ↦ report.others i other ∙ late.below i (omega (arith, before, other))
      ];
      beyond = λ i later inside. report.others i (omega (arith, later)) ∙ late.beyond i (omega (arith, later)) inside;
    }

next_late : (first : State) (n : ℕ) (ends : ℕ → Phase) (k : ℕ) → k < n → Reaches first (IsLate n ends k) → Reaches first (IsLate n ends (suc k))
next_late first n ends k inside reach = by_phase (ends k) refl
  where
    state : State
    state = after_all first reach.events

    late : IsLate n ends k state
    late = reach.holds

    within : k < size state
    within = let sized : size state ≡ n = late.sized in omega (arith, sized, inside)

    kept : early (ends k) ≡ ends k → Reaches first (IsLate n ends (suc k))
    kept over = record { events = reach.events; run = reach.run; holds = already n ends k state late inside over }

    by_success : (outcome : Outcome) (good : Bool) → is_success outcome.status ≡ good → ends k ≡ Reported outcome → Reaches first (IsLate n ends (suc k))
    by_success outcome true good is = kept (rw (is, good) refl)
    by_success outcome false poor is =
        let sound : is_status outcome.status ≡ true = late.sound k outcome inside (ap outcome_of is) in
        let runs : phase_at state k ≡ Running = late.beyond k (le_refl k) inside ∙ rw (is, poor) refl in
        let may : may_come state (Report k outcome) ≡ true = and_from _ _ (ap is_running runs) sound in
        further first (IsLate n ends (suc k)) reach.events (Report k outcome) reach.run within may (reports_late n ends k outcome state late within may is)

    by_phase : (phase : Phase) → ends k ≡ phase → Reaches first (IsLate n ends (suc k))
    by_phase Unstarted is = kept (rw is refl)
    by_phase Running is = kept (rw is refl)
    by_phase (Reported outcome) is = by_success outcome (is_success outcome.status) refl is

pub all_late : (first : State) (n : ℕ) (ends : ℕ → Phase) (k : ℕ) → k ≤ n → Reaches first (IsLate n ends 0) → Reaches first (IsLate n ends k)
all_late first n ends zero below at = at
all_late first n ends (suc k) below at = next_late first n ends k (omega (arith, below)) (all_late first n ends k (omega (arith, below)) at)

late-from : (n : ℕ) (ends : ℕ → Phase) (state : State) → IsEarly n ends n state → IsLate n ends 0 state
late-from n ends state at = record { reached = at.reached; sized = at.sized; sound = λ i outcome within. at.can.statuses i outcome (let sized : size state ≡ n = at.sized in omega (arith, sized, within)); below = λ i before. absurd (omega (arith, before)); beyond = λ i later within. at.below i within }

-- a state in which the requests have come to these ends
abbrev pub HasEnds : ℕ → (ℕ → Phase) → State → Type 0
HasEnds n ends state = (i : ℕ) → i < n → phase_at state i ≡ ends i

-- some run from before any event comes to these ends
pub reaches : (first : State) (ends : ℕ → Phase) → IsReached first → first.closed ≡ false → first.policy.width ≡ 10000 → ((i : ℕ) → phase_at first i ≡ Unstarted) → IsEnd first.plan_graph ends → Reaches first (HasEnds (size first) ends)
reaches first ends reached going wide fresh can =
    let n : ℕ = size first in
    let at : IsEarly n ends 0 first = record { reached = reached; going = going; wide = wide; sized = refl; can = can; below = λ i before. absurd (omega (arith, before)); beyond = λ i later. fresh i } in
    let early_run : Reaches first (IsEarly n ends n) = all_early first n ends n (le_refl n) at in
    let late_run : Reaches first (IsLate n ends n) = all_late first n ends n (le_refl n) (record { events = early_run.events; run = early_run.run; holds = late-from n ends _ early_run.holds }) in
    record { events = late_run.events; run = late_run.run; holds = λ i within. late_run.holds.below i within }
