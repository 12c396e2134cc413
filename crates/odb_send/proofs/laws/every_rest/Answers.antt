use Rattle.odb_send.specs.Rests.{kept, changes}
use Rattle.odb_send.proofs.LawLemmas.{none_left, rest_may_be_sent, urls_stay}
use Rattle.odb_send.proofs.NameLemmas.{rest_good}
use Rattle.odb_send.proofs.PlanLemmas.{is_part}
use Rattle.odb_send.proofs.laws.every_rest.Goals as goal

pub returns-clause-accepted : goal.returns-clause-accepted
returns-clause-accepted c = λ batch statuses answers rest good is. rest_good batch (kept rest) (changes rest) good (urls_stay batch (kept rest) answers (changes rest) is.changes_are)

pub returns-clause-plan : goal.returns-clause-plan
returns-clause-plan c = λ batch statuses answers rest good is. is_part batch (kept rest) answers (changes rest) good (urls_stay batch (kept rest) answers (changes rest) is.changes_are) is.changes_are

pub returns-clause-nothing : goal.returns-clause-nothing
returns-clause-nothing c = λ batch statuses answers rest is all. none_left batch statuses (kept rest) (changes rest) is.units all

pub returns-clause-may_be_sent : goal.returns-clause-may_be_sent
returns-clause-may_be_sent c = λ batch statuses answers rest good is. rest_may_be_sent batch statuses (kept rest) good is.units
