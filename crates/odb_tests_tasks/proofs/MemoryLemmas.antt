-- Documents and texts in memory: what a reader over bytes gives, and what is written to a vector.
use Rattle.std.proofs.Common.{◌≡◌, ◌∙◌, ℕ, List, [], ◌++◌, Bor, Global, Some, Vec, false, sym, ap, subst}
use Rattle.odb_io.specs.Devices.{Reading, Writing}
use Rattle.odb_engine.specs.Engines.{WritesText}
use Rattle.odb_engine.specs.Inputs.{IsDocumentOf}

-- the document that a reader over these bytes gives is one of the bytes
pub document-of : (bytes : Bor (List ℕ)) (input : Reading (Bor (List ℕ))) (document : List ℕ) → input ≡ record { reader = bytes; failed = false; reads = 0 } → IsDocumentOf input.reader.now document → IsDocumentOf bytes.now document
document-of bytes input document is of = subst (λ (r : Reading (Bor (List ℕ))). IsDocumentOf r.reader.now document) is of

-- the text that was written to an empty vector is what it holds
pub text-in : (P : List ℕ → Type 0) (empty text : Vec ℕ Global) (old new : Writing (Vec ℕ Global)) → empty.items ≡ [] → old ≡ record { writer = empty; failed = false; flushed = false } → text ≡ new.writer
    → WritesText (Some old.writer.items) (Some new.writer.items) P → P text.items
text-in P empty text old new none is taken w =
    let begun : old.writer.items ≡ [] = ap (λ (o : Writing (Vec ℕ Global)). o.writer.items) is ∙ none in
    subst P (sym (ap (λ (v : Vec ℕ Global). v.items) taken ∙ (w.written ∙ ap (λ (xs : List ℕ). xs ++ w.text) begun))) w.so
