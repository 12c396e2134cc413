-- What a run takes whose caller drives it: starts and reports one by one, units that are sent as one, and a stop (OData JSON
-- Format 4.01, section 19.1; OData Protocol 4.01, section 11.7).
use Rattle.std.specs.Prelude.{◌≡◌, ℕ, ◌<◌, ◌==◌, ◌||◌, Bool, true, false, List, [], ◌∷◌}
use Rattle.odb_doc.specs.batch.Records.{Record}
use Rattle.odb_sched.specs.declared.event.Event.{Event}
use Rattle.odb_sched.specs.declared.policy.Policy.{Policy}
use Rattle.odb_sched.specs.run.State.{State, after, first_state, size, started_unit, stopped, without_requests}
use Rattle.odb_sched.specs.run.Steps.{may_come}
use Rattle.odb_sched.specs.run.Runs.{event_position}
use Rattle.odb_sched.specs.run.Units.{may_begin}

-- one event, the start of a unit as one, or a stop by the caller
pub data LiveEvent : Type 0 where
  Single : Event → LiveEvent
  StartUnit : ℕ → LiveEvent
  Stop : LiveEvent

abbrev pub after_live : State → LiveEvent → State
after_live state (Single event) = after state event
after_live state (StartUnit u) = started_unit state u
after_live state Stop = stopped state

-- it is about a request or a unit of the batch
abbrev pub IsKnownTo : State → LiveEvent → Type 0
IsKnownTo state (Single event) = event_position event < size state
IsKnownTo state (StartUnit u) = u < state.plan_graph.unit_count
IsKnownTo state Stop = Unit {0}

-- a stop may always come
abbrev pub may_take : State → LiveEvent → Bool
may_take state (Single event) = may_come state event
may_take state (StartUnit u) = may_begin state u
may_take state Stop = true

-- the state after live events
abbrev pub after_all_live : State → List LiveEvent → State
after_all_live state [] = state
after_all_live state (e ∷ es) = after_all_live (after_live state e) es

-- each may come after those before it
abbrev pub IsLiveRunFrom : State → List LiveEvent → Type 0
IsLiveRunFrom state [] = Unit {0}
IsLiveRunFrom state (e ∷ es) = IsKnownTo state e × (may_take state e ≡ true) × IsLiveRunFrom (after_live state e) es

-- a live run before its first event
abbrev pub first_live : List Record → Policy → State
first_live requests policy = without_requests (first_state requests policy)

-- the events are a live run of these requests
abbrev pub IsLiveRun : List Record → Policy → List LiveEvent → Type 0
IsLiveRun requests policy events = IsLiveRunFrom (first_live requests policy) events

-- the state after a live run
abbrev pub live_state : List Record → Policy → List LiveEvent → State
live_state requests policy events = after_all_live (first_live requests policy) events

-- the starts and reports that came one by one
abbrev pub singles : List LiveEvent → List Event
singles [] = []
singles (Single event ∷ es) = event ∷ singles es
singles (StartUnit u ∷ es) = singles es
singles (Stop ∷ es) = singles es

-- whether a unit was sent as one
abbrev pub is_sent : List LiveEvent → ℕ → Bool
is_sent [] u = false
is_sent (Single event ∷ es) u = is_sent es u
is_sent (StartUnit v ∷ es) u = (v == u) || is_sent es u
is_sent (Stop ∷ es) u = is_sent es u
