use Rattle.odb_doc.proofs.RecordingLemmas.{recordable-outcomes, one_outcome_fault, no_outcome_fault, one_record}
use Rattle.odb_doc.proofs.laws.one_record.Goals as goal

pub returns-clause-one : goal.returns-clause-one
returns-clause-one c = one_outcome_fault

pub returns-clause-none : goal.returns-clause-none
returns-clause-none c = no_outcome_fault

pub returns-clause-outcomes : goal.returns-clause-outcomes
returns-clause-outcomes c = one_record

pub returns-clause-recordable : goal.returns-clause-recordable
returns-clause-recordable c = recordable-outcomes
