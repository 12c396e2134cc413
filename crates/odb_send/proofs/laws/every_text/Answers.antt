use Rattle.odb_doc.proofs.BatchLemmas.{AreOneReading}
use Rattle.odb_send.proofs.ReadLemmas.{rest-line, rest-read}
use Rattle.odb_send.proofs.SoundLemmas.{text-document}
use Rattle.odb_send.proofs.laws.every_text.Goals as goal

pub returns-clause-value : goal.returns-clause-value
returns-clause-value c = rest-read

pub returns-clause-line : goal.returns-clause-line
returns-clause-line c = rest-line

pub returns-clause-document : goal.returns-clause-document
returns-clause-document c =
    let texts : AreOneReading = record { front = c.one_reading.ensures.front; method = c.one_reading.ensures.method } in
    λ document d rs statuses answers rest text batch shaped is has. text-document texts document d rs answers rest text batch shaped is.changes_are has
