-- The clauses are the laws of the lemmas, at the state after the run.
use Rattle.odb_sched.specs.declared.policy.Policy.{Policy}
use Rattle.std.proofs.Common.{ap, ◌∙◌}
use Rattle.odb_sched.specs.run.Runs.{state_after}
use Rattle.odb_sched.specs.run.State.{initial}
use Rattle.odb_sched.proofs.ResultLemmas.{one_result, result_by_statuses, agrees_with_table, all_or_none, rests_on_successes}
use Rattle.odb_sched.proofs.RunLemmas.{reached_run, closed-after_all, policy-after_all}
use Rattle.odb_sched.proofs.laws.every_result.Goals as goal

pub returns-clause-one_result : goal.returns-clause-one_result
returns-clause-one_result c = λ policy events continues run finished. one_result _ (reached_run c.args.plan.now policy events c.every_plan.ensures.order run) finished (closed-after_all (initial c.args.plan.now policy) events) (ap (λ (p : Policy). p.mode) (policy-after_all (initial c.args.plan.now policy) events) ∙ continues)

pub returns-clause-by_statuses : goal.returns-clause-by_statuses
returns-clause-by_statuses c = λ policy events continues run finished. result_by_statuses _ (reached_run c.args.plan.now policy events c.every_plan.ensures.order run) finished (closed-after_all (initial c.args.plan.now policy) events) (ap (λ (p : Policy). p.mode) (policy-after_all (initial c.args.plan.now policy) events) ∙ continues)

pub returns-clause-agrees_with_table : goal.returns-clause-agrees_with_table
returns-clause-agrees_with_table c = λ policy events run. agrees_with_table _ (reached_run c.args.plan.now policy events c.every_plan.ensures.order run)

pub returns-clause-all_or_none : goal.returns-clause-all_or_none
returns-clause-all_or_none c = λ policy events run. all_or_none (state_after c.args.plan.now policy events)

pub returns-clause-rests_on_successes : goal.returns-clause-rests_on_successes
returns-clause-rests_on_successes c = λ policy events run. rests_on_successes _ (reached_run c.args.plan.now policy events c.every_plan.ensures.order run)

pub returns-clause-statuses : goal.returns-clause-statuses
returns-clause-statuses c = λ policy events run. (reached_run c.args.plan.now policy events c.every_plan.ensures.order run).statuses
