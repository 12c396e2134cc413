-- What is made of the plan of a batch document.
use Rattle.std.specs.Prelude.{◌⊎◌, ℕ, List}
use Rattle.serde_json.specs.Data.{Data}
use Rattle.odb_doc.specs.Refusals.{Printed}
use Rattle.odb_doc.specs.batch.Records.{Record}
use Rattle.odb_engine.specs.Cascade.{Accepts, AcceptsValue, HasValue, IsLeast}

-- the bytes are a batch that the check accepts, and this is true of its value and its requests
abbrev pub AcceptsAs : List ℕ → (Data → List Record → Type 0) → Type 0
AcceptsAs bytes P = HasValue bytes (λ value. AcceptsValue value (P value))

-- why nothing is made: the least fault of the batch, or else one by which nothing is made of its requests
abbrev pub IsLeastOfMaking : List ℕ → (List Record → Printed → Type 0) → Printed → Type 0
IsLeastOfMaking bytes Refuses refusal = IsLeast bytes refusal ⊎ Accepts bytes (λ batch. Refuses batch refusal)
