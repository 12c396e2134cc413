use Rattle.odb_send.proofs.OneRestLemmas.{no-fault, one-fault, one-text}
use Rattle.odb_send.proofs.laws.one_rest.Goals as goal

pub returns-clause-text : goal.returns-clause-text
returns-clause-text c = λ document d batch statuses answers rest other text different json one two. one-text batch statuses answers rest other one two c.one_place.ensures document d text different json

pub returns-clause-fault : goal.returns-clause-fault
returns-clause-fault c = one-fault

pub returns-clause-none : goal.returns-clause-none
returns-clause-none c = no-fault
