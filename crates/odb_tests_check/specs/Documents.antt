-- Documents and their values.
use Rattle.std.specs.Prelude.{ℕ, List}
use Rattle.serde_json.specs.Data.{Data}
use Rattle.odb_doc.specs.Documents.{IsDocument}

-- the bytes are a document whose value has this property
pub record HasValue (bytes : List ℕ) (P : Data → Type 0) : Type 0 where
  pub value : Data
  pub document : IsDocument bytes value
  pub holds : P value
