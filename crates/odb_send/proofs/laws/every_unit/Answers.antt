use Rattle.odb_send.proofs.LawLemmas.{done_stays, may_be_sent_rests}
use Rattle.odb_send.proofs.laws.every_unit.Goals as goal

pub returns-clause-apart : goal.returns-clause-apart
returns-clause-apart c = done_stays

pub returns-clause-all : goal.returns-clause-all
returns-clause-all c = may_be_sent_rests
