-- The prefix of a list of events that a run has taken.
use Rattle.std.proofs.Common.{◌≡◌, ◌≢◌, ℕ, ◌<◌, ◌+◌, ◌∙◌, sym, refl, ap, subst, arith, true, List, [], ◌∷◌, ◌++◌, length, false, All, append_assoc, append-nil, length-append}
use Rattle.std.proofs.lemmas.List.Elements.{All-contains, Contains-append_right}
use Rattle.odb_sched.specs.declared.event.Event.{Event}
use Rattle.odb_sched.specs.declared.event.Event.TheVariants as kinds
use Rattle.odb_sched.specs.declared.refusal.RunRefusal.{RunRefusal}
use Rattle.odb_sched.specs.declared.refusal.RunRefusal.TheVariants as refusal
use Rattle.odb_sched.specs.run.State.{State, size, after}
use Rattle.odb_sched.specs.run.Steps.{may_come}
use Rattle.odb_sched.specs.run.Runs.{event_position, after_all, IsRunFrom, RefusesEvent, StopsAt, Refuses}
use Rattle.odb_sched.specs.run.Taking.{TakesUpTo}
use Rattle.odb_sched.proofs.CauseLemmas.{start_barred, report_barred}
use Rattle.odb_sched.proofs.RunLemmas.{after_all-push, joined, plan_graph-after_all}

-- the events before the rest are a run that ends in this state
pub record HasTaken (first : State) (events rest : List Event) (count : ℕ) (now : State) : Type 0 where
  pub before : List Event
  pub whole : events ≡ before ++ rest
  pub counted : length before ≡ count
  pub run : IsRunFrom first before
  pub state : now ≡ after_all first before

pub taken_none : (first : State) (events : List Event) → HasTaken first events events 0 first
taken_none first events = record { before = []; whole = refl; counted = refl; run = tt; state = refl }

-- the same rest and count, written otherwise
pub taken_as : (first : State) (events rest other : List Event) (count n : ℕ) (now : State) → rest ≡ other → count ≡ n → HasTaken first events rest count now → HasTaken first events other n now
taken_as first events rest other count n now same_rest same_count taken = rw (← same_rest, ← same_count) taken

-- the next event names a request that there is
pub next_within : (first : State) (events : List Event) (event : Event) (later : List Event) (count : ℕ) (now : State) → All (λ e. event_position e < size first) events → HasTaken first events (event ∷ later) count now → event_position event < size now
next_within first events event later count now within taken =
    let here : event_position event < size first = All-contains (λ e. event_position e < size first) events event within (rw taken.whole (Contains-append_right taken.before (event ∷ later) event (0, omega arith, refl))) in
    rw (taken.state, plan_graph-after_all first taken.before) here

pub taken_more : (first : State) (events : List Event) (event : Event) (later : List Event) (count : ℕ) (now next : State) → HasTaken first events (event ∷ later) count now → event_position event < size now → may_come now event ≡ true → next ≡ after now event → HasTaken first events later (count + 1) next
taken_more first events event later count now next taken within may is = record {
  before = taken.before ++ event ∷ [];
  whole = taken.whole ∙ sym (append_assoc taken.before (event ∷ []) later);
  counted = let counted = taken.counted in omega (arith, length-append taken.before (event ∷ []));
  run = joined first taken.before event taken.run (subst (λ state. event_position event < size state) taken.state within) (subst (λ state. may_come state event ≡ true) taken.state may);
  state = is ∙ ap (λ state. after state event) taken.state ∙ sym (after_all-push first taken.before event);
}

-- all events are taken
pub taken_all : (first : State) (events : List Event) (count : ℕ) (now : State) → HasTaken first events [] count now → IsRunFrom first events × (now ≡ after_all first events)
taken_all first events count now taken =
    let whole : events ≡ taken.before = taken.whole ∙ append-nil taken.before in
    (subst (IsRunFrom first) (sym whole) taken.run, taken.state ∙ ap (after_all first) (sym whole))

-- an event with a cause against it may not come
refused_barred : (state : State) (at : ℕ) (event : Event) (cause : RunRefusal) → RefusesEvent state at event cause → may_come state event ≡ false
refused_barred state at (kinds.Start i) (refusal.Start place cause) refused = start_barred state i cause refused.1
refused_barred state at (kinds.Start i) (refusal.Report place cause) refused = absurd refused
refused_barred state at (kinds.Start i) refusal.OutOfMemory refused = absurd refused
refused_barred state at (kinds.Report i outcome) (refusal.Start place cause) refused = absurd refused
refused_barred state at (kinds.Report i outcome) (refusal.Report place cause) refused = report_barred state i outcome cause refused.1
refused_barred state at (kinds.Report i outcome) refusal.OutOfMemory refused = absurd refused

-- the next event is refused, so the list is no run
refused_next : (first : State) (events : List Event) (event : Event) (later : List Event) (at count : ℕ) (now : State) (cause : RunRefusal) → HasTaken first events (event ∷ later) count now → at ≡ count → RefusesEvent now at event cause → StopsAt first events cause
refused_next first events event later at count now cause taken place refused = record {
  before = taken.before;
  event = event;
  later = later;
  whole = taken.whole;
  run = taken.run;
  barred = subst (λ state. may_come state event ≡ false) taken.state (refused_barred now at event cause refused);
  refused = subst (λ state. RefusesEvent state (length taken.before) event cause) taken.state (subst (λ n. RefusesEvent now n event cause) (place ∙ sym taken.counted) refused);
}

pub taken_refused : (first : State) (events : List Event) (event : Event) (later : List Event) (at count : ℕ) (now : State) (cause : RunRefusal) → HasTaken first events (event ∷ later) count now → at ≡ count → RefusesEvent now at event cause → TakesUpTo first events cause now
unfolding refused_next
taken_refused first events event later at count now cause taken place refused = record { stops = refused_next first events event later at count now cause taken place refused; taken = taken.state }

-- where events stop, they are refused, and not for want of memory
pub refuses_there : (first : State) (events : List Event) (cause : RunRefusal) → StopsAt first events cause → Refuses first events cause
refuses_there first events (refusal.Start n cause) stops = stops
refuses_there first events (refusal.Report n cause) stops = stops
refuses_there first events refusal.OutOfMemory stops = tt

refused_numbered : (state : State) (at : ℕ) (event : Event) → ¬ RefusesEvent state at event refusal.OutOfMemory
refused_numbered state at (kinds.Start i) refused = refused
refused_numbered state at (kinds.Report i outcome) refused = refused

pub stops_numbered : (first : State) (events : List Event) (cause : RunRefusal) → StopsAt first events cause → cause ≢ refusal.OutOfMemory
stops_numbered first events cause stops same = refused_numbered (after_all first stops.before) (length stops.before) stops.event (subst (RefusesEvent (after_all first stops.before) (length stops.before) stops.event) same stops.refused)

-- each event names a request that there is
pub sized : (first : State) (n : ℕ) (events : List Event) → size first ≡ n → All (λ e. event_position e < n) events → All (λ e. event_position e < size first) events
sized first n events is within = rw is within
