-- Documents in memory.
use Rattle.std.proofs.Common.{◌≡◌, ◌∙◌, ℕ, List, [], unwrap_or, refl, sym, ap, append-nil, arith}
use Rattle.serde_json.specs.Data.{Data}
use Rattle.odb_doc.specs.Documents.{IsDocument}
use Rattle.odb_engine.specs.Cascade.{HasValue}
use Rattle.odb_engine.specs.Inputs.{IsDocumentOf}

-- bytes have one value
pub one_value : (bytes : List ℕ) (d e : Data) → IsDocument bytes d → IsDocument bytes e → d ≡ e
one_value bytes d e first second = ap (λ o. unwrap_or o d) (sym first.1.1 ∙ second.1.1)

-- the bytes of a document are all that a reader over them gives
pub whole-document : (bytes : List ℕ) (P : Data → Type 0) → HasValue bytes P → IsDocumentOf bytes bytes
whole-document bytes P is = record { rest = []; whole = sym (append-nil bytes); within = omega (arith, is.document.0); ends = λ less. refl }
