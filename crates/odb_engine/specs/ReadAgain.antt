-- That a written response is read again as a response document that fits its batch, and has the statuses of a finished run,
-- as `match` asks of the document of a service (OData JSON Format 4.01, section 19.5).
use Rattle.std.specs.Prelude.{◌≡◌, ℕ, List, Some}
use Rattle.serde_json.specs.Data.{Data}
use Rattle.serde_json.specs.Read.{read}
use Rattle.odb_doc.specs.batch.Records.{Record}
use Rattle.odb_check.specs.Plans.{batch_plan_graph}
use Rattle.odb_reply.specs.Fits.{IsTableOf, ListsFit}
use Rattle.odb_reply.specs.ResponseDocuments.{IsResponseDocument}
use Rattle.odb_reply.specs.StatusFaults.{IsPossibleBy, status_at}
use Rattle.odb_reply.specs.declared.strictness.Strictness.{Strictness}

-- what `serde_json` reads from the text is a response document whose responses fit the batch, and whose statuses are
-- possible, of runs by requests or of those by units
pub record IsReadAgain (by : Strictness) (batch : List Record) (text : List ℕ) : Type 0 where
  pub value : Data
  pub reads : read text ≡ Some value
  pub document : IsResponseDocument value
  pub fits : ListsFit batch value
  pub possible : (places statuses : List ℕ) → IsTableOf batch fits.listed places statuses → IsPossibleBy by (batch_plan_graph batch) (status_at statuses)
