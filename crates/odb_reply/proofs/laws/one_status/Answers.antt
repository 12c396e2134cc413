use Rattle.odb_reply.proofs.StartsLemmas.{one_status_fault, no_status_fault}
use Rattle.odb_reply.proofs.laws.one_status.Goals as goal

pub returns-clause-one : goal.returns-clause-one
returns-clause-one c = one_status_fault

pub returns-clause-none : goal.returns-clause-none
returns-clause-none c = no_status_fault
