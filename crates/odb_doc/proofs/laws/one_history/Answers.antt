use Rattle.odb_doc.proofs.RecordingLemmas.{recordable-events, one_event_fault, no_event_fault, one_events}
use Rattle.odb_doc.proofs.laws.one_history.Goals as goal

pub returns-clause-one : goal.returns-clause-one
returns-clause-one c = one_event_fault

pub returns-clause-none : goal.returns-clause-none
returns-clause-none c = no_event_fault

pub returns-clause-events : goal.returns-clause-events
returns-clause-events c = one_events

pub returns-clause-recordable : goal.returns-clause-recordable
returns-clause-recordable c = recordable-events
