-- The step is the next one of the run that the handle has.
use Rattle.std.proofs.Common.{◌≡◌, refl, subst, true}
use Rattle.odb_sched.specs.run.Choosing.{AllowsOrder, IsNext}
use Rattle.odb_sched.specs.run.State.{State}
use Rattle.odb_sched.specs.run.Steps.{is_finished}
use Rattle.odb_calls.specs.Next.GivesNext.{Given, Finished}
use Rattle.odb_calls.proofs.next.next.Goals as goal

pub returns-in-Some-next_in : goal.returns-in-Some-next_in
returns-in-Some-next_in c = Given c.in-Some.named c.in-Some-next_in.next c.in-Some.ensures.some
    (subst (λ (state : State). IsNext (AllowsOrder c.in-Some.named) state c.in-Some-next_in.next) c.run.ensures c.in-Some-next_in.ensures.next)
    refl c.numbers_of.ensures.step c.numbers_of.ensures.position

pub returns-in-None : goal.returns-in-None
returns-in-None c = Finished c.in-Some.named c.in-Some.ensures.some
    (subst (λ (state : State). is_finished state ≡ true) c.run.ensures (c.next_in.ensures.finished c.in-None.is)) refl refl refl
