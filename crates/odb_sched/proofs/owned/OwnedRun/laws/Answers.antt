-- The answers of a reached state have one result, are all or none in a group, and are sound.
use Rattle.odb_sched.proofs.ResultLemmas.{one_result, result_by_statuses, agrees_with_table, all_or_none, rests_on_successes}
use Rattle.odb_sched.proofs.StatusLemmas.{status-answer}
use Rattle.odb_sched.proofs.owned.OwnedRun.laws.Goals as goal

pub returns-clause-one_result : goal.returns-clause-one_result
returns-clause-one_result c = one_result _ c.reached.ensures.reached c.requires

pub returns-clause-by_statuses : goal.returns-clause-by_statuses
returns-clause-by_statuses c = result_by_statuses _ c.reached.ensures.reached c.requires

pub returns-clause-agrees_with_table : goal.returns-clause-agrees_with_table
returns-clause-agrees_with_table c = agrees_with_table _ c.reached.ensures.reached

pub returns-clause-all_or_none : goal.returns-clause-all_or_none
returns-clause-all_or_none c = all_or_none c.args.self.now

pub returns-clause-rests_on_successes : goal.returns-clause-rests_on_successes
returns-clause-rests_on_successes c = rests_on_successes _ c.reached.ensures.reached

pub returns-clause-statuses : goal.returns-clause-statuses
returns-clause-statuses c = c.reached.ensures.reached.statuses

pub returns-clause-answered : goal.returns-clause-answered
returns-clause-answered c = λ i. status-answer c.args.self.now i c.reached.ensures.reached.statuses
