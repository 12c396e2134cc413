-- The clauses are the lemmas of units, at the state after the run.
use Rattle.odb_sched.proofs.RunLemmas.{reached_run}
use Rattle.odb_sched.proofs.UnitLemmas.{first_needs_nothing, has_next_unit, units_go_on}
use Rattle.odb_sched.proofs.laws.every_unit.Goals as goal

pub returns-clause-first : goal.returns-clause-first
returns-clause-first c = λ policy events run. first_needs_nothing _ (reached_run c.args.plan.now policy events c.every_plan.ensures.order run)

pub returns-clause-goes_on : goal.returns-clause-goes_on
returns-clause-goes_on c = λ policy events run. units_go_on _ (reached_run c.args.plan.now policy events c.every_plan.ensures.order run)

pub returns-clause-next : goal.returns-clause-next
returns-clause-next c = λ policy events run. has_next_unit _ (reached_run c.args.plan.now policy events c.every_plan.ensures.order run)
