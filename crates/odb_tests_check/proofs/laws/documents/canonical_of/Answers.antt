use Rattle.std.proofs.Common.{sym, subst}
use Rattle.std.proofs.lemmas.Option.{IfSome_then}
use Rattle.odb_doc.specs.canonical.CanonicalLaws.{IsDocumentOf}
use Rattle.odb_tests_check.proofs.laws.documents.canonical_of.Goals as goal

pub returns : goal.returns
returns c = IfSome_then c.text_of.result c.text_of.ensures (λ text p. (p.0, p.1, subst (λ bytes. IsDocumentOf bytes p.0) (sym p.3) (c.one_text.ensures.reads_back p.0 p.2)))
