-- Texts of plans, and that two batches in values have one plan.
use Rattle.std.specs.Prelude.{◌≡◌, ◌≤◌, ◌<◌, ℕ, List, length}
use Rattle.serde_json.specs.Data.{Data}
use Rattle.odb_doc.specs.batch.Records.{Record, IsBatchOf}
use Rattle.odb_check.specs.PlanGraph.{unit_needed}
use Rattle.odb_check.specs.Texts.{plan_text}
use Rattle.odb_check.specs.Units.{unit_at}
use Rattle.odb_check.specs.declared.need.Need.{Need}
use Rattle.odb_text.specs.Drawings.{arrow_start}
use Rattle.odb_text.specs.SamePlans.{IsSamePlan}

-- the text is that of the plan of the batch in a value
pub record IsPlanText (value : Data) (text : List ℕ) : Type 0 where
  pub batch : List Record
  pub batch_is : IsBatchOf value batch
  pub small : length batch ≤ 10000
  pub is : text ≡ plan_text batch

-- the batches in two values have one plan
pub record AreOnePlan (value different : Data) : Type 0 where
  pub batch : List Record
  pub other : List Record
  pub batch_is : IsBatchOf value batch
  pub other_is : IsBatchOf different other
  pub same : IsSamePlan batch other

-- the arrow from what is needed begins at a request of it
pub record BeginsInNeeded (batch : List Record) (need : Need) : Type 0 where
  pub within : arrow_start batch need < length batch
  pub unit : unit_at batch (arrow_start batch need) ≡ unit_needed (unit_at batch) need
