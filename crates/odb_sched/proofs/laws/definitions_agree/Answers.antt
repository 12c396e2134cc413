-- The clauses are the laws of the lemmas, at the plan of the requests.
use Rattle.odb_sched.proofs.EventLemmas.{phases_first}
use Rattle.odb_sched.proofs.FailingLemmas.{Fails-from_fails, fails-from_Fails, succeeds_by_members}
use Rattle.odb_sched.proofs.RunLemmas.{reached_initial}
use Rattle.odb_sched.proofs.laws.definitions_agree.Goals as goal

pub returns-clause-phases : goal.returns-clause-phases
returns-clause-phases c = λ policy events i run. phases_first c.args.plan.now policy events i (reached_initial c.args.plan.now policy c.every_plan.ensures.order) run

pub returns-clause-failing : goal.returns-clause-failing
returns-clause-failing c = λ bad u. ((λ e. Fails-from_fails _ bad u e), (λ failing. fails-from_Fails _ bad u c.every_plan.ensures.order failing))

pub returns-clause-succeeding : goal.returns-clause-succeeding
returns-clause-succeeding c = λ statuses u. succeeds_by_members _ statuses u c.every_plan.ensures.order
