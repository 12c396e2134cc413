-- The full plan of a batch: its plan with what is to be sent of each request, and where its body is in the document.
use Rattle.std.specs.Prelude.{ℕ, List, Option}
use Rattle.serde_json.specs.Data.{Data}
use Rattle.odb_doc.specs.Documents.{IsJson}
use Rattle.odb_doc.specs.batch.Records.{Record}
use Rattle.odb_send.specs.Places.{AreBodiesIn}
use Rattle.odb_spans.specs.declared.span.Span.{Span}
use Rattle.odb_text.specs.FullPlans.{full_plan_value}
use Rattle.odb_text.specs.Results.{json_line}
use Rattle.odb_engine.specs.declared.ending.Ended.{Ended}
use Rattle.odb_engine.specs.declared.form.Form.{Form}
use Rattle.odb_engine.specs.Cascade.{Prints}

-- the full plan of a batch, by the places of its bodies in the document: JSON in each form
pub record ShowsPlaces (document : List ℕ) (batch : List Record) (form : Form) (ended : Ended) (text : List ℕ) : Type 0 where
  pub bodies : List (Option Span)
  pub places : (d : Data) → IsJson document d → AreBodiesIn document d bodies
  pub prints : Prints (json_line (full_plan_value batch bodies)) ended text
