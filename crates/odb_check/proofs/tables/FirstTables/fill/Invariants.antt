use Rattle.std.specs.Prelude.{◌≡◌, false}
use Rattle.odb_doc.specs.batch.Batches.{records}
use Rattle.odb_check.specs.Starts.{table_start}
use Rattle.odb_check.specs.Tables.{AreIdsDistinct, AreTablesOf}
use Rattle.odb_check.proofs.tables.FirstTables.fill.Given as goal

-- the requests before i are in the tables, whose hashes begin where they did
abbrev pub invariant-loop-i : goal.invariant-loop-i
invariant-loop-i l = record {
  batch : l.self.batch ≡ l.fn.self.batch;
  tables : AreTablesOf (records l.fn.self.batch.now) l.i l.self.ids l.self.groups l.self.units.items l.self.starts.items;
  apart : l.self.has_repeated_id ≡ false → AreIdsDistinct (records l.fn.self.batch.now) l.i;
  ids : table_start l.self.ids ≡ table_start l.fn.self.ids;
  groups : table_start l.self.groups ≡ table_start l.fn.self.groups;
}
