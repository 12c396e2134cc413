-- The clauses are the lemmas of causes.
use Rattle.odb_sched.proofs.CauseLemmas.{start_bars, report_bars, one_start, one_report}
use Rattle.odb_sched.proofs.OneFaultLemmas.{one_refusal, one_unknown}
use Rattle.odb_sched.proofs.laws.every_cause.Goals as goal

pub returns-clause-start : goal.returns-clause-start
returns-clause-start c = start_bars

pub returns-clause-report : goal.returns-clause-report
returns-clause-report c = report_bars

pub returns-clause-one_start : goal.returns-clause-one_start
returns-clause-one_start c = one_start

pub returns-clause-one_report : goal.returns-clause-one_report
returns-clause-one_report c = one_report

pub returns-clause-one_refusal : goal.returns-clause-one_refusal
returns-clause-one_refusal c = one_refusal

pub returns-clause-one_unknown : goal.returns-clause-one_unknown
returns-clause-one_unknown c = one_unknown
