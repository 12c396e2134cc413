-- That two batches have one plan, as far as a plan shows it.
use Rattle.std.specs.Prelude.{◌≡◌, ◌<◌, ℕ, List, length}
use Rattle.odb_doc.specs.batch.Records.{Record}
use Rattle.odb_check.specs.Needs.{needs_at}
use Rattle.odb_check.specs.Positions.{group_at, id_at}

-- they have as many requests, and these have the same identifiers, groups and dependencies, in the same order
pub record IsSamePlan (batch other : List Record) : Type 0 where
  pub count : length batch ≡ length other
  pub ids : (i : ℕ) → id_at batch i ≡ id_at other i
  pub groups : (i : ℕ) → group_at batch i ≡ group_at other i
  pub needs : (i : ℕ) → i < length batch → needs_at batch i ≡ needs_at other i
