-- The canonical text of a batch is a document of that batch.
use Rattle.std.proofs.Common.{◌≡◌, ◌↔◌, ◌++◌, ℕ, List, Some, ap, codes, refl, subst}
use Rattle.serde_json.specs.Data.{Data}
use Rattle.serde_json.specs.Read.{read}
use Rattle.serde_json.proofs.Nesting.{depth-read}
use Rattle.odb_doc.specs.canonical.Canonical.{HasWholeBodies, canonical_value, canonical_text}
use Rattle.odb_doc.specs.canonical.CanonicalLaws.{HasCanonicalText, IsDocumentOf}
use Rattle.odb_doc.specs.batch.Records.{Record, IsBatchOf}
use Rattle.odb_doc.specs.batch.Shapes.{elements}
use Rattle.odb_doc.proofs.BatchLemmas.{AreOneReading, one_batch}
use Rattle.odb_doc.proofs.CanonicalReads.{canonical-safe, held-bodies}
use Rattle.odb_doc.proofs.CanonicalShapes.{canonical-batch, canonical-shaped}
use Rattle.odb_doc.proofs.LineLemmas.{value_line}
use Rattle.odb_doc.proofs.ReadBackLemmas.{held-read, read_back}
use Rattle.odb_doc.proofs.SafeLemmas.{IsSafe}

-- a batch that was read from a text has a canonical text
pub from_text : (text : List ℕ) (batch : List Record) → IsDocumentOf text batch → HasWholeBodies batch → HasCanonicalText batch
from_text text batch from whole = record {
  value = from.value;
  shallow = depth-read text from.value from.reads;
  shaped = from.shaped;
  says = from.says;
  held = held-bodies from.value batch (held-read text from.value from.reads) from.says;
  whole = whole;
}

safe : (batch : List Record) → HasCanonicalText batch → IsSafe 127 (canonical_value batch)
safe batch has = canonical-safe has.value batch has.shallow has.says has.held has.whole

pub value_read : (batch : List Record) → HasCanonicalText batch → read (canonical_text batch) ≡ Some (canonical_value batch)
unfolding canonical_text
value_read batch has = let whole = safe batch has in read_back (canonical_value batch) whole.held whole.whole whole.shallow

line_read : (batch : List Record) → HasCanonicalText batch → read (canonical_text batch ++ codes "\n") ≡ Some (canonical_value batch)
unfolding canonical_text
line_read batch has = let whole = safe batch has in value_line (canonical_value batch) whole.held whole.whole whole.shallow

-- a text that is read as the canonical value is a document of the batch
document : AreOneReading → (text : List ℕ) (batch : List Record) → HasCanonicalText batch → read text ≡ Some (canonical_value batch) → IsDocumentOf text batch
document texts text batch has reads = record {
  value = canonical_value batch;
  reads = reads;
  shaped = canonical-shaped texts has.value batch has.shaped has.says;
  says = canonical-batch has.value batch has.says;
}

pub reads_back : AreOneReading → (batch : List Record) → HasCanonicalText batch → IsDocumentOf (canonical_text batch) batch
reads_back texts batch has = document texts (canonical_text batch) batch has (value_read batch has)

pub line_back : AreOneReading → (batch : List Record) → HasCanonicalText batch → IsDocumentOf (canonical_text batch ++ codes "\n") batch
line_back texts batch has = document texts (canonical_text batch ++ codes "\n") batch has (line_read batch has)

-- one text is the document of one batch
one_document : AreOneReading → (text other_text : List ℕ) (batch other : List Record) → IsDocumentOf text batch → IsDocumentOf other_text other → text ≡ other_text → batch ≡ other
one_document texts text other_text batch other one two same =
    let value : one.value ≡ two.value = cc (ap read same, one.reads, two.reads) in
    one_batch texts (elements two.value) batch other (subst (λ (d : Data). IsBatchOf d batch) value one.says) two.says

pub equal_texts : AreOneReading → (batch other : List Record) → HasCanonicalText batch → HasCanonicalText other → (canonical_text batch ≡ canonical_text other) ↔ (batch ≡ other)
equal_texts texts batch other one two = (
  λ same. one_document texts (canonical_text batch) (canonical_text other) batch other (reads_back texts batch one) (reads_back texts other two) same,
  λ same. ap canonical_text same,
)

pub text_again : AreOneReading → (batch other : List Record) → HasCanonicalText batch → IsDocumentOf (canonical_text batch) other → canonical_text other ≡ canonical_text batch
text_again texts batch other has again =
    ap canonical_text (one_document texts (canonical_text batch) (canonical_text batch) other batch again (reads_back texts batch has) refl)
