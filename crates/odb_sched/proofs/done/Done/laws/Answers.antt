-- What holds of the answers of the run holds of them with the requests of the plan.
use Rattle.std.proofs.Common.{◌≡◌, subst, false}
use Rattle.odb_sched.specs.declared.policy.Mode.TheVariants.{Continue}
use Rattle.odb_sched.specs.run.Laws.{HasOneResult, HasResultByStatuses, AgreesWithTable}
use Rattle.odb_sched.specs.run.State.{State}
use Rattle.odb_sched.proofs.done.Done.laws.Goals as goal

pub returns-clause-one_result : goal.returns-clause-one_result
returns-clause-one_result c = subst (λ (state : State). state.closed ≡ false → state.policy.mode ≡ Continue → HasOneResult state) c.run.ensures.state c.laws.ensures.one_result

pub returns-clause-by_statuses : goal.returns-clause-by_statuses
returns-clause-by_statuses c = subst (λ (state : State). state.closed ≡ false → state.policy.mode ≡ Continue → HasResultByStatuses state) c.run.ensures.state c.laws.ensures.by_statuses

pub returns-clause-agrees_with_table : goal.returns-clause-agrees_with_table
returns-clause-agrees_with_table c = subst AgreesWithTable c.run.ensures.state c.laws.ensures.agrees_with_table
