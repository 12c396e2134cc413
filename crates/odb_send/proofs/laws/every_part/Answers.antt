use Rattle.odb_send.specs.Rests.{kept, changes}
use Rattle.odb_doc.proofs.BatchLemmas.{AreOneReading}
use Rattle.odb_send.proofs.PartLawLemmas.{at_most, fresh, needs_met_after, one_part_after, part_good, part_of_plan, rest_is_part, some_go}
use Rattle.odb_send.proofs.SoundLemmas.{text-document}
use Rattle.odb_send.proofs.laws.every_part.Goals as goal

pub returns-clause-one : goal.returns-clause-one
returns-clause-one c = one_part_after

pub returns-clause-fresh : goal.returns-clause-fresh
returns-clause-fresh c = fresh

pub returns-clause-needs : goal.returns-clause-needs
returns-clause-needs c = needs_met_after

pub returns-clause-limit : goal.returns-clause-limit
returns-clause-limit c = λ batch states limit answers part is. at_most batch is.done is.left limit answers (kept part) (changes part) is.part_is.units

pub returns-clause-some : goal.returns-clause-some
returns-clause-some c = some_go

pub returns-clause-accepted : goal.returns-clause-accepted
returns-clause-accepted c = λ batch states limit answers part good is. part_good batch answers part good is.part_is.changes_are

pub returns-clause-plan : goal.returns-clause-plan
returns-clause-plan c = λ batch states limit answers part good is. part_of_plan batch answers part good is.part_is.changes_are

pub returns-clause-document : goal.returns-clause-document
returns-clause-document c =
    let texts : AreOneReading = record { front = c.one_reading.ensures.front; method = c.one_reading.ensures.method } in
    λ document d batch states limit answers part text is_batch shaped is has. text-document texts document d batch answers part text is_batch shaped is.part_is.changes_are has

pub returns-clause-rest : goal.returns-clause-rest
returns-clause-rest c = rest_is_part
