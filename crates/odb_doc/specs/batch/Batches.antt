-- A batch as the list of its requests.
use Rattle.std.specs.Prelude.{List, map}
use Rattle.odb_doc.specs.declared.batch.Batch.{Batch}
use Rattle.odb_doc.specs.batch.Records.{Record, record_of}

-- the requests, in order
abbrev pub records : Batch → List Record
records batch = map record_of batch.requests.items
