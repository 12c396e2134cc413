-- Phases are those of some live run if each request that has started has what it needs, but for units that are sent as one and
-- of which none succeeds: the successes of the others come first, then these units are sent, then all failures are reported.
use Rattle.std.proofs.Common.{◌≡◌, ◌≢◌, ℕ, zero, suc, ◌<◌, ◌≤◌, ◌+◌, ◌==◌, ◌∙◌, sym, refl, ap, subst, arith, Bool, true, false, not, ◌&&◌, cond, List, [], ◌∷◌, ◌++◌, length, count_by, inl, inr, Contains, le_refl, lt-ltb, ltb-true, nat_lt, eqb-true, map}
use Rattle.std.proofs.lemmas.Bool.{cases_Bool, cases_eq, cases_lt, both_ways, and_parts, and_right, or_from, not-true, false_from_ne_true}
use Rattle.odb_check.specs.declared.need.Need.{Need}
use Rattle.odb_check.specs.declared.need.Need.TheVariants.{One, Group}
use Rattle.odb_check.specs.PlanGraph.{PlanGraph, unit_of, needs_of, unit_needed}
use Rattle.odb_sched.specs.declared.phase.Phase.{Phase}
use Rattle.odb_sched.specs.declared.phase.Phase.TheVariants.{Unstarted, Running}
use Rattle.odb_sched.specs.declared.event.Event.{Event}
use Rattle.odb_sched.specs.run.State.{State, size, phase_at, after, is_unstarted, is_running, has_succeeded, has_failed, has_erred, started_unit}
use Rattle.odb_sched.specs.run.Steps.{stops, is_satisfied, spare_in}
use Rattle.odb_sched.specs.run.Units.{has_begun, may_begin}
use Rattle.odb_sched.specs.run.Runs.{after_all, IsRunFrom}
use Rattle.odb_sched.specs.run.LiveEvents.{LiveEvent, Single, StartUnit, after_all_live, IsLiveRunFrom}
use Rattle.odb_sched.specs.invariants.Kept.{IsReached}
use Rattle.odb_sched.proofs.BeginLemmas.{may_begin-from, may_begin-parts, some_member}
use Rattle.odb_sched.proofs.BelowLemmas.{any_below-Decides}
use Rattle.odb_sched.proofs.LiveLemmas.{IsPopulated, after_all_live-append, live_run-append, plan_graph-after_all_live}
use Rattle.odb_sched.proofs.MemberLemmas.{as_running, member_runs, other_stays}
use Rattle.odb_sched.proofs.OuterLemmas.{outer-from}
use Rattle.odb_sched.proofs.ReachableLemmas.{HasEnds, HasIn, HaveStatuses, IsEarly, IsEnd, IsLate, Reaches, all_early, all_late, early, early-succeeded, none_erred, none_failed, sound_at}
use Rattle.odb_sched.proofs.RunLemmas.{plan_graph-after_all}
use Rattle.odb_sched.proofs.SatisfiedLemmas.{succeeded_in-from}
use Rattle.odb_sched.proofs.StartLemmas.{fewer_run}
use Rattle.odb_sched.proofs.WholeLemmas.{sent}

-- ---- live runs one after another

-- a live run after which this holds
pub record ReachesLive (first : State) (Holds : State → Type 0) : Type 0 where
  pub events : List LiveEvent
  pub run : IsLiveRunFrom first events
  pub holds : Holds (after_all_live first events)

live_singles : (state : State) (events : List Event) → IsRunFrom state events → IsLiveRunFrom state (map Single events)
live_singles state [] run = tt
live_singles state (e ∷ es) run = (run.0, run.1, live_singles (after state e) es run.2)

after_singles : (state : State) (events : List Event) → after_all_live state (map Single events) ≡ after_all state events
after_singles state [] = refl
after_singles state (e ∷ es) = after_singles (after state e) es

by_singles : (first : State) (Holds : State → Type 0) → Reaches first Holds → ReachesLive first Holds
by_singles first Holds reach = record { events = map Single reach.events; run = live_singles first reach.events reach.run; holds = subst Holds (sym (after_singles first reach.events)) reach.holds }

further : (first : State) (Before Holds : State → Type 0) (one : ReachesLive first Before) → ReachesLive (after_all_live first one.events) Holds → ReachesLive first Holds
further first Before Holds one two = record {
  events = one.events ++ two.events;
  run = live_run-append first one.events two.events one.run two.run;
  holds = subst Holds (sym (after_all_live-append first one.events two.events)) two.holds;
}

-- ---- the units that are sent

-- Of each unit that is to be sent no member has started, and what its members need of other units has succeeded.
pub record AreSendable (plan : PlanGraph) (sends : ℕ → Bool) (before : ℕ → Phase) : Type 0 where
  pub idle : (i : ℕ) → i < length plan.units → sends (unit_of plan i) ≡ true → before i ≡ Unstarted
  pub needs : (i : ℕ) (need : Need) → i < length plan.units → sends (unit_of plan i) ≡ true → Contains (needs_of plan i) need → unit_needed (unit_of plan) need ≢ unit_of plan i → HasIn plan before need

module _ (sends : ℕ → Bool) (before : ℕ → Phase) where
  -- the phase of a request of this unit, once those of the units below k that are to be sent were sent
  abbrev sent_phase : ℕ → ℕ → ℕ → Phase
  sent_phase u k i = cond (sends u && nat_lt u k) Running (before i)

  -- of the units that are to be sent those below k were
  record IsSending (count k : ℕ) (state : State) : Type 0 where
    pub reached : IsReached state
    pub some : IsPopulated state.plan_graph
    pub counted : state.plan_graph.unit_count ≡ count
    pub going : state.closed ≡ false
    pub wide : state.policy.width ≡ 10000
    pub unfailed : (i : ℕ) → has_failed (phase_at state i) ≡ false
    pub unerred : (i : ℕ) → has_erred (phase_at state i) ≡ false
    pub sendable : AreSendable state.plan_graph sends before
    pub phases : (i : ℕ) → i < size state → phase_at state i ≡ sent_phase (unit_of state.plan_graph i) k i

  unsent : (u k i : ℕ) → sends u ≡ false → sent_phase u k i ≡ before i
  unsent u k i e = rw e refl

  sent_before : (u k i : ℕ) → sends u ≡ true → u < k → sent_phase u k i ≡ Running
  sent_before u k i e less = rw (e, lt-ltb u k less) refl

  sent_later : (u k i : ℕ) → k ≤ u → sent_phase u k i ≡ before i
  sent_later u k i later = rw (false_from_ne_true (nat_lt u k) (λ e. let less : u < k = ltb-true u k e in absurd (omega (arith, less, later)))) (at (sends u))
    where
      at : (b : Bool) → cond (b && false) Running (before i) ≡ before i
      at true = refl
      at false = refl

  -- another unit is sent or not as before
  sent_other : (u k i : ℕ) → u ≢ k → sent_phase u k i ≡ sent_phase u (suc k) i
  sent_other u k i other = elim (cases_lt u k) [
    | inl less ↦ rw (lt-ltb u k less, lt-ltb u (suc k) (omega (arith, less))) refl
    | inr more ↦ sent_later u k i more ∙ sym (sent_later u (suc k) i (omega (arith, more, other)))
  ]

  -- what has succeeded before still has
  still_done : (count k : ℕ) (state : State) (r : ℕ) → IsSending count k state → r < size state → has_succeeded (before r) ≡ true → has_succeeded (phase_at state r) ≡ true
  still_done count k state r sending inside done = elim (cases_Bool (sends (unit_of state.plan_graph r))) [
    | inl sent ↦ absurd (both_ways _ (ap has_succeeded (sending.sendable.idle r inside sent)) done)
    | inr other ↦ ap has_succeeded (sending.phases r inside ∙ unsent _ k r other) ∙ done
  ]

  still_met : (count k : ℕ) (state : State) (i : ℕ) (need : Need) → IsSending count k state → i < size state → Contains (needs_of state.plan_graph i) need → HasIn state.plan_graph before need → is_satisfied state need ≡ true
  still_met count k state i (One r) sending within has done = let earlier : r < i = sending.reached.laws.earlier i (One r) within has in still_done count k state r sending (omega (arith, earlier, within)) done
  still_met count k state i (Group u) sending within has done = succeeded_in-from state.plan_graph state.phases u (λ j inside here. still_done count k state j sending inside (done j inside here))

  -- the next unit has not begun
  fresh_at : (count k : ℕ) (state : State) → IsSending count k state → sends k ≡ true → has_begun state k ≡ false
  fresh_at count k state sending sent = false_from_ne_true _ (λ e.
      let (i, within, member) = (any_below-Decides (size state) (λ j. (unit_of state.plan_graph j == k) && not (is_unstarted (phase_at state j)))).0 e in
      let (here, begun) = and_parts (unit_of state.plan_graph i == k) (not (is_unstarted (phase_at state i))) member in
      let same : unit_of state.plan_graph i ≡ k = eqb-true _ _ here in
      let idle : phase_at state i ≡ Unstarted = sending.phases i within ∙ sent_later _ k i (omega (arith, same)) ∙ sending.sendable.idle i within (ap sends same ∙ sent) in
      both_ways _ (not-true _ begun) (ap is_unstarted idle))

  begins_at : (count k : ℕ) (state : State) → IsSending count k state → k < count → sends k ≡ true → may_begin state k ≡ true
  begins_at count k state sending below sent =
      let counted : state.plan_graph.unit_count ≡ count = sending.counted in
      let (i, within, here) = some_member state.plan_graph k (sending.some k (omega (arith, counted, below))) in
      let idle : phase_at state i ≡ Unstarted = sending.phases i within ∙ sent_later _ k i (omega (arith, here)) ∙ sending.sendable.idle i within (ap sends here ∙ sent) in
      let each : length state.phases ≡ size state = sending.reached.each in
      let few : size state ≤ 10000 = sending.reached.laws.few in
      let wide : state.policy.width ≡ 10000 = sending.wide in
      let fewer : count_by is_running state.phases < length state.phases = fewer_run state.phases i (omega (arith, each, within)) (ap is_running idle) in
      let room : count_by is_running state.phases < state.policy.width + spare_in state.awaited = omega (arith, fewer, each, few, wide) in
      may_begin-from state k (record {
        fresh = fresh_at count k state sending sent;
        unstopped = or_from _ _ sending.going (and_right (stops state.policy.mode) _ (none_erred state sending.unerred));
        sound = none_failed state k sending.unfailed;
        satisfied = outer-from state.plan_graph k (is_satisfied state) (λ j need inside member has other.
            still_met count k state j need sending inside has (sending.sendable.needs j need inside (ap sends member ∙ sent) has (λ own. other (own ∙ member))));
        room = room;
      })

  sends_on : (count k : ℕ) (state : State) → IsSending count k state → k < count → (may : may_begin state k ≡ true) → sends k ≡ true → IsSending count (suc k) (started_unit state k)
  sends_on count k state sending below may is_sent =
      let parts = may_begin-parts state k may in
      let counted : state.plan_graph.unit_count ≡ count = sending.counted in
      let known : k < state.plan_graph.unit_count = omega (arith, counted, below) in
      record {
        reached = sent state k sending.reached parts known (sending.some k known);
        some = sending.some;
        counted = counted;
        going = sending.going;
        wide = sending.wide;
        unfailed = λ i. as_running state.plan_graph state.phases k has_failed sending.reached.each parts.fresh refl i ∙ sending.unfailed i;
        unerred = λ i. as_running state.plan_graph state.phases k has_erred sending.reached.each parts.fresh refl i ∙ sending.unerred i;
        sendable = sending.sendable;
        phases = λ i within. elim (cases_eq (unit_of state.plan_graph i) k) [
          | inl here ↦ member_runs state.plan_graph state.phases k i within here ∙ sym (sent_before _ (suc k) i (ap sends here ∙ is_sent) (omega (arith, here)))
          | inr elsewhere ↦ other_stays state.plan_graph state.phases k i within elsewhere ∙ sending.phases i within ∙ sent_other _ k i elsewhere
        ];
      }

  passes_by : (count k : ℕ) (state : State) → IsSending count k state → sends k ≡ false → IsSending count (suc k) state
  passes_by count k state sending unsent_unit = record {
    reached = sending.reached;
    some = sending.some;
    counted = sending.counted;
    going = sending.going;
    wide = sending.wide;
    unfailed = sending.unfailed;
    unerred = sending.unerred;
    sendable = sending.sendable;
    phases = λ i within. elim (cases_eq (unit_of state.plan_graph i) k) [
      | inl here ↦ sending.phases i within ∙ unsent _ k i (ap sends here ∙ unsent_unit) ∙ sym (unsent _ (suc k) i (ap sends here ∙ unsent_unit))
      | inr elsewhere ↦ sending.phases i within ∙ sent_other _ k i elsewhere
    ];
  }

  -- one unit more, of which nothing or its start comes
  next_sent : (count k : ℕ) (state : State) → IsSending count k state → k < count → ReachesLive state (IsSending count (suc k))
  next_sent count k state sending below = elim (cases_Bool (sends k)) [
    | inl is_sent ↦
        let may = begins_at count k state sending below is_sent in
        let counted : state.plan_graph.unit_count ≡ count = sending.counted in
        record { events = StartUnit k ∷ []; run = (omega (arith, counted, below), may, tt); holds = sends_on count k state sending below may is_sent }
    | inr other ↦ record { events = []; run = tt; holds = passes_by count k state sending other }
  ]

  all_sent : (count k : ℕ) (first : State) → k ≤ count → IsSending count 0 first → ReachesLive first (IsSending count k)
  all_sent count zero first below sending = record { events = []; run = tt; holds = sending }
  all_sent count (suc k) first below sending =
      let one = all_sent count k first (omega (arith, below)) sending in
      further first (IsSending count k) (IsSending count (suc k)) one (next_sent count k (after_all_live first one.events) one.holds (omega (arith, below)))

-- ---- the whole run

has_early : (plan : PlanGraph) (ends : ℕ → Phase) (need : Need) → HasIn plan ends need → HasIn plan (λ i. early (ends i)) need
has_early plan ends (One r) done = ap has_succeeded (early-succeeded (ends r) done) ∙ done
has_early plan ends (Group u) done = λ j inside here. ap has_succeeded (early-succeeded (ends j) (done j inside here)) ∙ done j inside here

early_sendable : (plan : PlanGraph) (sends : ℕ → Bool) (ends : ℕ → Phase) → AreSendable plan sends ends → AreSendable plan sends (λ i. early (ends i))
early_sendable plan sends ends sendable = record {
  idle = λ i within sent. ap early (sendable.idle i within sent);
  needs = λ i need within sent has other. has_early plan ends need (sendable.needs i need within sent has other);
}

-- how the requests end, if those of the units that are sent end otherwise than the others: they fail
pub record EndInFailure (plan : PlanGraph) (sends : ℕ → Bool) (ends last : ℕ → Phase) : Type 0 where
  pub statuses : HaveStatuses (length plan.units) last
  pub fail : (i : ℕ) → i < length plan.units → sends (unit_of plan i) ≡ true → early (last i) ≡ Running
  pub others : (i : ℕ) → i < length plan.units → sends (unit_of plan i) ≡ false → last i ≡ ends i

sending_from : (sends : ℕ → Bool) (ends : ℕ → Phase) (n : ℕ) (state : State) → IsPopulated state.plan_graph → AreSendable state.plan_graph sends ends → size state ≡ n → IsEarly n ends n state
    → IsSending sends (λ i. early (ends i)) state.plan_graph.unit_count 0 state
sending_from sends ends n state some sendable sized early_in = record {
  reached = early_in.reached;
  some = some;
  counted = refl;
  going = early_in.going;
  wide = early_in.wide;
  unfailed = λ i. (sound_at n ends n state i early_in).0;
  unerred = λ i. (sound_at n ends n state i early_in).1;
  sendable = early_sendable state.plan_graph sends ends sendable;
  phases = λ i within. early_in.below i (omega (arith, within, sized)) ∙ sym (sent_later sends (λ j. early (ends j)) (unit_of state.plan_graph i) 0 i (omega arith));
}

late_from : (sends : ℕ → Bool) (ends last : ℕ → Phase) (count n : ℕ) (state : State) → size state ≡ n → IsSending sends (λ i. early (ends i)) count count state → EndInFailure state.plan_graph sends ends last → IsLate n last 0 state
late_from sends ends last count n state sized sending fail = record {
  reached = sending.reached;
  sized = sized;
  sound = λ i outcome within. fail.statuses i outcome (omega (arith, within, sized));
  below = λ i before. absurd (omega (arith, before));
  beyond = λ i later within.
      let inside : i < size state = omega (arith, within, sized) in
      let counted : state.plan_graph.unit_count ≡ count = sending.counted in
      let known : unit_of state.plan_graph i < state.plan_graph.unit_count = sending.reached.laws.counted i inside in
      elim (cases_Bool (sends (unit_of state.plan_graph i))) [
        | inl sent ↦ sending.phases i inside ∙ sent_before sends (λ j. early (ends j)) _ count i sent (omega (arith, counted, known)) ∙ sym (fail.fail i inside sent)
        | inr other ↦ sending.phases i inside ∙ unsent sends (λ j. early (ends j)) _ count i other ∙ ap early (sym (fail.others i inside other))
      ];
}

-- some live run from before any event comes to these ends
pub reaches_live : (first : State) (sends : ℕ → Bool) (ends last : ℕ → Phase) → IsReached first → IsPopulated first.plan_graph → first.closed ≡ false → first.policy.width ≡ 10000 → ((i : ℕ) → phase_at first i ≡ Unstarted)
    → IsEnd first.plan_graph ends → AreSendable first.plan_graph sends ends → EndInFailure first.plan_graph sends ends last → ReachesLive first (HasEnds (size first) last)
reaches_live first sends ends last reached some going wide fresh can sendable fail =
    let n : ℕ = size first in
    let at : IsEarly n ends 0 first = record { reached = reached; going = going; wide = wide; sized = refl; can = can; below = λ i before. absurd (omega (arith, before)); beyond = λ i later. fresh i } in
    let one : Reaches first (IsEarly n ends n) = all_early first n ends n (le_refl n) at in
    let middle : State = after_all first one.events in
    let same : middle.plan_graph ≡ first.plan_graph = plan_graph-after_all first one.events in
    let sized : size middle ≡ n = ap (λ (plan : PlanGraph). length plan.units) same in
    let count : ℕ = middle.plan_graph.unit_count in
    let sending = sending_from sends ends n middle (subst IsPopulated (sym same) some) (subst (λ plan. AreSendable plan sends ends) (sym same) sendable) sized one.holds in
    let two : ReachesLive middle (IsSending sends (λ i. early (ends i)) count count) = all_sent sends (λ i. early (ends i)) count count middle (le_refl count) sending in
    let late : State = after_all_live middle two.events in
    let still : late.plan_graph ≡ first.plan_graph = plan_graph-after_all_live middle two.events ∙ same in
    let sized_late : size late ≡ n = ap (λ (plan : PlanGraph). length plan.units) still in
    let three : Reaches late (IsLate n last n) = all_late late n last n (le_refl n)
    (record { events = []; run = tt; holds = late_from sends ends last count n late sized_late two.holds (subst (λ plan. EndInFailure plan sends ends last) (sym still) fail) }) in
    let end : ReachesLive late (HasEnds n last) = by_singles late (HasEnds n last) (record { events = three.events; run = three.run; holds = λ i within. three.holds.below i within }) in
    let rest : ReachesLive middle (HasEnds n last) = further middle (IsSending sends (λ i. early (ends i)) count count) (HasEnds n last) two end in
    let live : ReachesLive first (λ state. state ≡ middle) = by_singles first (λ state. state ≡ middle) (record { events = one.events; run = one.run; holds = refl }) in
    further first (λ state. state ≡ middle) (HasEnds n last) live (subst (λ state. ReachesLive state (HasEnds n last)) (sym live.holds) rest)
