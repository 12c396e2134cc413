-- Which batches have a canonical text, and what it means that a text is the document of a batch (OData JSON Format 4.01,
-- section 19.1).
use Rattle.std.specs.Prelude.{◌≡◌, ◌≤◌, ℕ, List, Some}
use Rattle.serde_json.specs.Data.{Data, depth}
use Rattle.serde_json.specs.Read.{read}
use Rattle.odb_doc.specs.canonical.Canonical.{HasHeldBodies, HasWholeBodies}
use Rattle.odb_doc.specs.batch.LeastFault.{IsWellShaped}
use Rattle.odb_doc.specs.batch.Records.{Record, IsBatchOf}

-- The batch of a value that has no fault of shape and nests at most 127 deep, in whose bodies each number is whole.
-- Each body is one that a `Value` can hold.
pub record HasCanonicalText (batch : List Record) : Type 0 where
  pub value : Data
  pub shallow : depth value ≤ 127
  pub shaped : IsWellShaped value
  pub says : IsBatchOf value batch
  pub held : HasHeldBodies batch
  pub whole : HasWholeBodies batch

-- what `serde_json` reads from the text has no fault of shape, and is the batch of these requests
pub record IsDocumentOf (text : List ℕ) (batch : List Record) : Type 0 where
  pub value : Data
  pub reads : read text ≡ Some value
  pub shaped : IsWellShaped value
  pub says : IsBatchOf value batch
