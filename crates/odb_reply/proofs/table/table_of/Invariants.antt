use Rattle.odb_reply.specs.Places.{AreListed}
use Rattle.odb_reply.specs.ResponseDocuments.{entries}
use Rattle.odb_reply.proofs.table.table_of.Given as goal

abbrev pub invariant-loop-at : goal.invariant-loop-at
invariant-loop-at l = AreListed (entries l.responses) l.found l.at l.places.items l.statuses.items
