use Rattle.std.proofs.Common.{◌≡◌, ◌∙◌, string_bytes, ap}
use Rattle.std.proofs.lemmas.Str.{IsUtf8-string_bytes}
use Rattle.serde_json.specs.Read.{read}
use Rattle.odb_doc.specs.batch.Batches.{records}
use Rattle.odb_doc.specs.canonical.Canonical.{canonical_text}
use Rattle.odb_doc.proofs.TextLemmas.{value_read}
use Rattle.odb_doc.proofs.batch.Batch.canonical.Goals as goal

pub returns-clause-document : goal.returns-clause-document
returns-clause-document c = λ has short.
    let text = c.in_ok-whole_text.field-0 in
    let rs = records c.args.self.now in
    let is : string_bytes text ≡ canonical_text rs = c.in_ok-whole_text.ensures in
    (short, (IsUtf8-string_bytes text, ap read is ∙ value_read rs has))
