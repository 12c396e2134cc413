-- How far a list of events is taken.
use Rattle.std.specs.Prelude.{◌≡◌, List}
use Rattle.odb_sched.specs.declared.event.Event.{Event}
use Rattle.odb_sched.specs.declared.refusal.RunRefusal.{RunRefusal}
use Rattle.odb_sched.specs.run.State.{State}
use Rattle.odb_sched.specs.run.Runs.{StopsAt, after_all}

-- the events before the first that may not come were taken, and this is the state after them
pub record TakesUpTo (state : State) (events : List Event) (cause : RunRefusal) (new : State) : Type 0 where
  pub stops : StopsAt state events cause
  pub taken : new ≡ after_all state stops.before
