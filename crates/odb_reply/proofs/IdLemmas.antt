-- An id of a batch is that of one position.
use Rattle.std.proofs.Common.{List}
use Rattle.odb_doc.specs.batch.Records.{Record}
use Rattle.odb_check.specs.Laws.{HasPositions}
use Rattle.odb_reply.specs.Places.{IsOnce}

-- if a text has one position at most, no two positions have the same id
pub one_position : (rs : List Record) → HasPositions rs → IsOnce rs
one_position rs law i j id here there = let one = (law.found id i).1 here in let other = (law.found id j).1 there in cc (one, other)
