-- What a call returns that asks which step a live run takes next, in an order that a replay has.
use Rattle.std.specs.Prelude.{◌≡◌, ℕ, true}
use Rattle.odb_sched.specs.declared.event.Step.{Step}
use Rattle.odb_sched.specs.declared.event.Step.TheVariants as step
use Rattle.odb_sched.specs.declared.order.Order.{Order}
use Rattle.odb_sched.specs.run.Choosing.{AllowsOrder, IsNext, position_in}
use Rattle.odb_sched.specs.run.State.{State}
use Rattle.odb_sched.specs.run.Steps.{is_finished}
use Rattle.odb_calls.specs.Options.{order_number}
use Rattle.odb_calls.specs.Returns.{NamesNone}

-- the number of a step
abbrev pub step_number : Step → ℕ
step_number (step.Start i) = 1
step_number (step.Report i) = 2

-- What a call returns that gives the next step: the one that a replay in this order takes after the same state; 0 for none,
-- once the run is finished; or that no order has this number. Without a step the place of the position is as it was.
pub data GivesNext (run : State) (order returned old_step new_step old_position new_position : ℕ) : Type 0 where
  Given : (named : Order) (next : Step) → order ≡ order_number named → IsNext (AllowsOrder named) run next → returned ≡ 0 → new_step ≡ step_number next → new_position ≡ position_in next → GivesNext run order returned old_step new_step old_position new_position
  Finished : (named : Order) → order ≡ order_number named → is_finished run ≡ true → returned ≡ 0 → new_step ≡ 0 → new_position ≡ old_position → GivesNext run order returned old_step new_step old_position new_position
  NoOrder : NamesNone (λ named. order ≡ order_number named) → returned ≡ 2 → new_step ≡ old_step → new_position ≡ old_position → GivesNext run order returned old_step new_step old_position new_position
