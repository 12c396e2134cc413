-- What a call returns that asks for the next unit of a live run, starts a unit as one, or asks for the state of a request.
use Rattle.std.specs.Prelude.{◌≡◌, ◌<◌, ◌≤◌, ◌+◌, ◌-◌, ◌&&◌, ℕ, true, List, Some, None, length, slice_index_or, if◌then◌else◌}
use Rattle.odb_check.specs.Firsts.{first_below}
use Rattle.odb_check.specs.PlanGraph.{IsSpan, unit_of}
use Rattle.odb_live.specs.declared.run.LiveRun.{LiveRun}
use Rattle.odb_live.specs.Live.{with_run}
use Rattle.odb_sched.specs.declared.refusal.StartRefusal.{StartRefusal}
use Rattle.odb_sched.specs.declared.states.RequestState.{RequestState}
use Rattle.odb_sched.specs.declared.states.RequestState.TheVariants.{Waiting, Ready, Running, Reported, Skipped}
use Rattle.odb_sched.specs.run.Answers.{answer, is_undone, status_of}
use Rattle.odb_sched.specs.run.State.{State, size, started_unit}
use Rattle.odb_sched.specs.run.States.{request_state}
use Rattle.odb_sched.specs.run.Steps.{is_finished, start_number}
use Rattle.odb_sched.specs.run.Units.{may_begin, IsUnitCause}

-- the buffer begins with the numbers from one on, and the rest of it is as it was
pub record HasNumbers (from count : ℕ) (old new : List ℕ) : Type 0 where
  pub each : length new ≡ length old
  pub begins : (k : ℕ) → k < count → slice_index_or new k 0 ≡ from + k
  pub rest : (k : ℕ) → count ≤ k → slice_index_or new k 0 ≡ slice_index_or old k 0

-- what a call returns that gives the positions from one number up to another
pub data GivesSpan (from to status count : ℕ) (old new : List ℕ) : Type 0 where
  Given : count ≤ length old → status ≡ 0 → HasNumbers from count old new → GivesSpan from to status count old new
  TooMany : length old < count → status ≡ 5 → new ≡ old → GivesSpan from to status count old new

-- What a call returns that gives the positions of the first unit that may begin: of its members, in order. If no unit may
-- begin now, their number is 0.
pub data GivesUnit (run : State) (status count : ℕ) (old new : List ℕ) : Type 0 where
  Begins : (u from to : ℕ) → first_below run.plan_graph.unit_count (may_begin run) ≡ Some u → IsSpan run.plan_graph u from to → count ≡ to - from → GivesSpan from to status count old new → GivesUnit run status count old new
  NoneNow : first_below run.plan_graph.unit_count (may_begin run) ≡ None → status ≡ 0 → count ≡ 0 → new ≡ old → GivesUnit run status count old new

-- What a call returns that starts the unit of the request at a position as one: 0 if it may begin, and the run has gone on;
-- the first cause against it, or that there is no such request, and nothing has changed.
pub data StartsUnit (old new : LiveRun) (i status : ℕ) : Type 0 where
  Started : i < size old.run → may_begin old.run (unit_of old.run.plan_graph i) ≡ true → status ≡ 0 → new ≡ with_run old (started_unit old.run (unit_of old.run.plan_graph i)) → StartsUnit old new i status
  Refused : (cause : StartRefusal) → i < size old.run → IsUnitCause old.run (unit_of old.run.plan_graph i) cause → status ≡ 10 + start_number cause → new ≡ old → StartsUnit old new i status
  NoRequest : size old.run ≤ i → status ≡ 2 → new ≡ old → StartsUnit old new i status

-- the number of a state
abbrev pub state_number : RequestState → ℕ
state_number Waiting = 0
state_number Ready = 1
state_number Running = 2
state_number (Reported status) = 3
state_number Skipped = 4

-- the status that a request has reported, or 0
abbrev pub reported_status : RequestState → ℕ
reported_status (Reported status) = status
reported_status state = 0

-- the number of a request's state: 5 once the run is finished, if the request has to be undone
abbrev pub number_at : State → ℕ → ℕ
number_at run i = if is_finished run && is_undone run i then 5 else state_number (request_state run i)

-- the status that a request of a finished run is answered, or else what it has reported
abbrev pub status_at : State → ℕ → ℕ
status_at run i = if is_finished run then status_of (answer run i) else reported_status (request_state run i)

-- what a call returns that gives the state of the request at a position
pub data GivesState (run : State) (i returned old_state new_state old_status new_status : ℕ) : Type 0 where
  Given : i < size run → returned ≡ 0 → new_state ≡ number_at run i → new_status ≡ status_at run i → GivesState run i returned old_state new_state old_status new_status
  NoRequest : size run ≤ i → returned ≡ 2 → new_state ≡ old_state → new_status ≡ old_status → GivesState run i returned old_state new_state old_status new_status
