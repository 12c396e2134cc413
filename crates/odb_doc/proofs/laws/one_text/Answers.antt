use Rattle.odb_doc.proofs.BatchLemmas.{AreOneReading}
use Rattle.odb_doc.proofs.TextLemmas.{from_text, value_read, reads_back, line_back, equal_texts, text_again}
use Rattle.odb_doc.proofs.laws.one_text.Goals as goal

pub returns-clause-from_text : goal.returns-clause-from_text
returns-clause-from_text c = from_text

pub returns-clause-value : goal.returns-clause-value
returns-clause-value c = value_read

pub returns-clause-reads_back : goal.returns-clause-reads_back
returns-clause-reads_back c =
    let texts : AreOneReading = record { front = c.one_reading.ensures.front; method = c.one_reading.ensures.method } in
    reads_back texts

pub returns-clause-line : goal.returns-clause-line
returns-clause-line c =
    let texts : AreOneReading = record { front = c.one_reading.ensures.front; method = c.one_reading.ensures.method } in
    line_back texts

pub returns-clause-equal : goal.returns-clause-equal
returns-clause-equal c =
    let texts : AreOneReading = record { front = c.one_reading.ensures.front; method = c.one_reading.ensures.method } in
    equal_texts texts

pub returns-clause-again : goal.returns-clause-again
returns-clause-again c =
    let texts : AreOneReading = record { front = c.one_reading.ensures.front; method = c.one_reading.ensures.method } in
    text_again texts
