-- What a run keeps from one event to the next, and what holds of every state that it reaches.
use Rattle.std.specs.Prelude.{Bool, List, [], length, replicate, slice_index_or, ◌≡◌, ◌≢◌, ℕ, ◌<◌, ◌≤◌, true, false, Contains}
use Rattle.odb_check.specs.declared.need.Need.{Need}
use Rattle.odb_check.specs.PlanGraph.{PlanGraph, IsPlan, unit_of, needs_of, unit_needed}
pub use Rattle.odb_check.specs.PlanGraph.{IsSpan, IsNeed}
use Rattle.odb_sched.specs.declared.policy.Policy.{Policy}
use Rattle.odb_sched.specs.declared.phase.Phase.{Phase}
use Rattle.odb_sched.specs.declared.phase.Phase.TheVariants.{Unstarted}
use Rattle.odb_sched.specs.run.State.{State, is_unstarted, size, phase_at, plan_graph, with_requests}
use Rattle.odb_sched.specs.run.Steps.{is_satisfied, running_count, spare_in, places, is_stopped, is_finished}
use Rattle.odb_sched.specs.run.Answers.{HasStatuses}
use Rattle.odb_sched.specs.declared.counts.Progress.{Progress}
use Rattle.odb_check.specs.Plans.{plan_records}
use Rattle.odb_sched.specs.declared.owned.OwnedRun.TheInside.{Inside}
use Rattle.odb_sched.specs.declared.scheduler.Scheduler.TheInside as scheduler
use Rattle.odb_sched.specs.declared.done.Done.TheInside as done
use Rattle.odb_sched.specs.invariants.Counts.{AreCounts}
use Rattle.odb_sched.specs.invariants.Lanes.{AreLanes}

-- the state, without its requests, of a run of this plan under this policy, with these phases and awaited reports
abbrev pub state_of : PlanGraph → Policy → Bool → List Phase → List ℕ → State
state_of plan policy closed phases awaited = record { requests = []; plan_graph = plan; policy = policy; closed = closed; phases = phases; awaited = awaited }

-- before any event
abbrev pub first_of : PlanGraph → Policy → State
first_of plan policy = state_of plan policy false (replicate (length plan.units) Unstarted) (replicate plan.unit_count 0)

-- what holds of a state before any event, and after each event that may come
pub record IsReached (state : State) : Type 0 where
  pub laws : IsPlan state.plan_graph
  pub each : length state.phases ≡ size state
  -- no more requests run than the width allows
  pub narrow : running_count state ≤ places state
  -- what a request needs of other units was satisfied before it started
  pub needs : (i : ℕ) (need : Need) → i < size state → is_unstarted (phase_at state i) ≡ false → Contains (needs_of state.plan_graph i) need → unit_needed (unit_of state.plan_graph) need ≢ unit_of state.plan_graph i → is_satisfied state need ≡ true
  pub statuses : HasStatuses state
  pub by_unit : length state.awaited ≡ state.plan_graph.unit_count
  -- a unit with a member that has not started was not sent as one
  pub apart : (i : ℕ) → i < size state → is_unstarted (phase_at state i) ≡ true → slice_index_or state.awaited (unit_of state.plan_graph i) 0 ≡ 0

-- the counts and the stop are those of the state
pub record IsCounted (state : State) (counted : Progress) : Type 0 where
  pub counts : AreCounts state.plan_graph state.phases counted.counts
  pub stopped : counted.stopped ≡ is_stopped state
  pub lanes : AreLanes state.awaited counted.lanes

-- the state of a run, of no requests
abbrev pub kept_state : Inside → State
kept_state s = state_of s.graph.plan_graph s.policy s.progress.closed s.progress.phases.items s.progress.lanes.awaited.items

-- what a run keeps
pub record IsKept (s : Inside) : Type 0 where
  pub reached : IsReached (kept_state s)
  pub counts : IsCounted (kept_state s) s.progress

-- the state of the run that a scheduler drives, of the requests of its plan
abbrev pub planned_state : scheduler.Inside → State
planned_state s = with_requests (plan_records s.plan.now) s.run

-- the numbers of the run are those of the plan, it is not closed, and no unit was sent as one
pub record IsDriven (s : scheduler.Inside) : Type 0 where
  pub of_plan : s.run.plan_graph ≡ plan_graph s.plan.now
  pub going : s.run.closed ≡ false
  pub one_by_one : spare_in s.run.awaited ≡ 0

-- the state in which a run has ended, of the requests of its plan
abbrev pub last_state : done.Inside → State
last_state d = with_requests (plan_records d.plan.now) d.run

-- the run is finished, and its numbers are those of the plan
pub record HasFinished (d : done.Inside) : Type 0 where
  pub of_plan : d.run.plan_graph ≡ plan_graph d.plan.now
  pub finished : is_finished d.run ≡ true
