use Rattle.std.proofs.Common.{◌≡◌, ap, sym, ◌∙◌, true, subst}
use Rattle.odb_sched.specs.run.State.{State}
use Rattle.odb_sched.specs.run.Steps.{is_finished}
use Rattle.odb_sched.proofs.scheduler.Scheduler.close.Goals as goal

pub invariant_of-done : goal.invariant_of-done
invariant_of-done c = record { of_plan = c.self.invariant.of_plan; finished = subst (λ state. is_finished state ≡ true) (sym c.self.view_is) c.requires }

pub returns-clause-one_result : goal.returns-clause-one_result
returns-clause-one_result c continues = c.laws.ensures.one_result c.self.invariant.going (ap (λ (state : State). state.policy.mode) c.self.view_is ∙ continues)
