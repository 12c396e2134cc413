-- Where the hashes of a table begin.
use Rattle.std.specs.Prelude.{ℕ, Option, Some, None, fold}
use Rattle.std.specs.Hash.{u64}
use Rattle.std.specs.Hash.FoldHasher.{initial, write}
use Rattle.indexmap.specs.IndexMap.{hasher_of}
use Rattle.odb_check.specs.declared.seed.Start.{Start}
use Rattle.odb_check.specs.declared.table.Table.{Table}
use Rattle.odb_check.specs.declared.table.Table.TheVariants as tables

-- the hasher that has read a number, and nothing else
abbrev pub start_of : ℕ → Start
start_of number = record { hasher = fold write initial (u64 number) }

-- the hasher that each hash of a table begins with; none if it hashes nothing
abbrev pub table_start : Table → Option Start
table_start (tables.Hashed map) = Some (hasher_of map)
table_start (tables.Sorted map) = None
