-- The clauses are the laws of the lemmas, at the requests of the plan.
use Rattle.odb_check.specs.Plans.{plan_records}
use Rattle.odb_sched.proofs.EventLemmas.{few_events_first}
use Rattle.odb_sched.proofs.NameLemmas.{dependencies_first}
use Rattle.odb_sched.proofs.StuckLemmas.{never_stuck}
use Rattle.odb_sched.proofs.RunLemmas.{reached_run, reached_initial}
use Rattle.odb_sched.proofs.laws.every_run.Goals as goal

pub returns-clause-dependencies_first : goal.returns-clause-dependencies_first
returns-clause-dependencies_first c = λ policy events run. dependencies_first (plan_records c.args.plan.now) policy events c.every_plan.ensures.order c.every_plan.ensures.plan_graph c.every_plan.ensures.names run

pub returns-clause-never_stuck : goal.returns-clause-never_stuck
returns-clause-never_stuck c = λ policy events run. never_stuck _ (reached_run c.args.plan.now policy events c.every_plan.ensures.order run)

pub returns-clause-few_events : goal.returns-clause-few_events
returns-clause-few_events c = λ policy events run. few_events_first c.args.plan.now policy events (reached_initial c.args.plan.now policy c.every_plan.ensures.order) run
