-- What is said of a request of a run at one moment.
use Rattle.std.specs.Prelude.{ℕ, Bool, ◌||◌, if◌then◌else◌}
use Rattle.odb_check.specs.PlanGraph.{unit_of}
use Rattle.odb_sched.specs.declared.phase.Phase.{Phase}
use Rattle.odb_sched.specs.declared.phase.Phase.TheVariants as phases
use Rattle.odb_sched.specs.declared.states.RequestState.{RequestState}
use Rattle.odb_sched.specs.declared.states.RequestState.TheVariants.{Waiting, Ready, Running, Reported, Skipped}
use Rattle.odb_sched.specs.run.State.{State, phase_at}
use Rattle.odb_sched.specs.run.Steps.{is_stopped, unit_failed, may_start}

-- a request that has not started: by whether it may start now, and whether it never will
abbrev pub unstarted_state : (ready never : Bool) → RequestState
unstarted_state ready never = if ready then Ready else if never then Skipped else Waiting

-- by the phase of a request
abbrev pub state_in : Phase → (ready never : Bool) → RequestState
state_in phases.Unstarted ready never = unstarted_state ready never
state_in phases.Running ready never = Running
state_in (phases.Reported outcome) ready never = Reported outcome.status

-- a request never starts any more once the run is stopped or its unit has failed
abbrev pub request_state : State → ℕ → RequestState
request_state state i = state_in (phase_at state i) (may_start state i) (is_stopped state || unit_failed state (unit_of state.plan_graph i))
