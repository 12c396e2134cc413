-- The clauses are the laws of the lemmas.
use Rattle.odb_exec.proofs.OrderLemmas.{one_course, one_fault, fault_or_end}
use Rattle.odb_exec.proofs.laws.every_order.Goals as goal

pub returns-clause-one_course : goal.returns-clause-one_course
returns-clause-one_course c = one_course

pub returns-clause-one_fault : goal.returns-clause-one_fault
returns-clause-one_fault c = one_fault

pub returns-clause-fault_or_end : goal.returns-clause-fault_or_end
returns-clause-fault_or_end c = fault_or_end
