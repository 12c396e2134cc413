use Rattle.odb_engine.proofs.WrittenLemmas.{AreRestLaws, checked, rest-accepted}
use Rattle.odb_engine.proofs.laws.written.every_rest.Goals as goal

pub returns : goal.returns
returns c =
    let law : AreRestLaws = record { accepted = c.every_rest.ensures.accepted; value = c.every_text.ensures.value; line = c.every_text.ensures.line; document = c.every_text.ensures.document } in
    λ mode form all bytes responses text writes may. checked all text (rest-accepted law mode form bytes responses text may writes)
