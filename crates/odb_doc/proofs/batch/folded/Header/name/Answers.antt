use Rattle.std.proofs.Common.{◌∙◌, sym}
use Rattle.odb_doc.proofs.TypeLemmas.{lower_same}
use Rattle.odb_doc.proofs.batch.folded.Header.name.Goals as goal

pub returns-then-not-has_uppercase-clause-name : goal.returns-then-not-has_uppercase-clause-name
returns-then-not-has_uppercase-clause-name c =
    let none = rw c.as_bytes.ensures.value at (sym c.has_uppercase.ensures ∙ c.if-not-has_uppercase.true) in
    sym (lower_same c.args.self.now.written.now none)
