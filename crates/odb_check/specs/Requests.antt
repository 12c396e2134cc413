-- The tables of a batch as its requests.
use Rattle.std.specs.Prelude.{List}
use Rattle.odb_doc.specs.batch.Records.{Record}
use Rattle.odb_doc.specs.batch.Batches.{records}
use Rattle.odb_check.specs.declared.tables.Tables.{Tables}

-- the requests, in order
abbrev pub requests : Tables → List Record
requests tables = records tables.all.batch.now
