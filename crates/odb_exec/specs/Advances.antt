-- One step of an execution: what private clauses and proofs cite, nothing to believe.
use Rattle.std.specs.Prelude.{◌≡◌, true, List}
use Rattle.odb_doc.specs.batch.Records.{Record}
use Rattle.odb_sched.specs.declared.event.Event.{Event}
use Rattle.odb_sched.specs.declared.event.Step.{Step}
use Rattle.odb_sched.specs.run.State.{State, after}
use Rattle.odb_sched.specs.run.Steps.{may_come}
use Rattle.odb_exec.specs.Courses.{Offer, IsOffered, step_of}
use Rattle.odb_exec.specs.Calls.{Performing, Asks}

-- some event of this step came, and what it reports was offered
pub record IsTaken (offers : Offer) (state new : State) (step : Step) : Type 0 where
  pub event : Event
  pub step_is : step ≡ step_of event
  pub may : may_come state event ≡ true
  pub offered : IsOffered offers event
  pub new_is : new ≡ after state event

-- and the service was asked for what the event reports, and for nothing else
pub record IsTakenBy {S : Type 0} (performs : Performing S) (requests : List Record) (offers : Offer) (state new : State) (service service_new : S) (step : Step) : Type 0 where
  pub taken : IsTaken offers state new step
  pub asked : Asks performs requests taken.event service service_new
