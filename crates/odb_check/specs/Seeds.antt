-- That a plan was made with a seed.
use Rattle.std.specs.Prelude.{◌≡◌, ℕ, Option, option_map}
use Rattle.odb_check.specs.declared.plan.Plan.{Plan}
use Rattle.odb_check.specs.Starts.{start_of, table_start}

-- the plan's tables hash from the number of the seed, and hash nothing if there is none
pub record IsSeeded (seed : Option ℕ) (plan : Plan) : Type 0 where
  pub ids : table_start plan.tables.all.ids ≡ option_map start_of seed
  pub groups : table_start plan.tables.all.groups ≡ option_map start_of seed
