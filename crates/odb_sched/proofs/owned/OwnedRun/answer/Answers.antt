-- What was reported has a status from 200 to 599.
use Rattle.std.proofs.Common.{rules, ◌∙◌, ap, sym}
use Rattle.odb_sched.specs.run.Answers.{outcome_of}
use Rattle.odb_sched.proofs.owned.OwnedRun.answer.Goals as goal

pub returns-else-is_success-clause-status : goal.returns-else-is_success-clause-status
returns-else-is_success-clause-status c = c.reached.ensures.reached.statuses c.args.i c.in-Reported.outcome (ap outcome_of (sym c.phase.ensures ∙ c.in-Reported.is))

pub returns-else-is_success-clause-value : goal.returns-else-is_success-clause-value
returns-else-is_success-clause-value c = search rules
