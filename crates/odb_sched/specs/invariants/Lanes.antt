-- What is counted of the units that were sent as one.
use Rattle.std.specs.Prelude.{◌≡◌, ℕ, ◌≤◌, List, length, All}
use Rattle.odb_sched.specs.declared.lanes.Lanes.{Lanes}
use Rattle.odb_sched.specs.run.Steps.{spare_in}

-- the counts are those of these awaited reports by unit
pub record AreLanes (awaited : List ℕ) (t : Lanes) : Type 0 where
  pub same : t.awaited.items ≡ awaited
  pub spare : t.spare ≡ spare_in awaited
  pub few : length awaited ≤ 10000
  pub small : All (λ n. n ≤ 10000) awaited
