-- What a live run has come to.
use Rattle.std.specs.Prelude.{◌≡◌, List}
use Rattle.odb_doc.specs.batch.Records.{Record}
use Rattle.odb_sched.specs.declared.policy.Policy.{Policy}
use Rattle.odb_sched.specs.run.State.{State}
use Rattle.odb_sched.specs.run.LiveEvents.{LiveEvent, IsLiveRun, live_state}
use Rattle.odb_sched.specs.run.LiveLaws.{KeepsPromises}

-- the state after some live run of the requests
pub record IsLiveState (requests : List Record) (policy : Policy) (state : State) : Type 0 where
  pub events : List LiveEvent
  pub live : IsLiveRun requests policy events
  pub after : state ≡ live_state requests policy events

-- the state after some live run that keeps what is promised
pub record IsKept (requests : List Record) (policy : Policy) (state : State) : Type 0 where
  pub events : List LiveEvent
  pub after : state ≡ live_state requests policy events
  pub keeps : KeepsPromises requests policy events
