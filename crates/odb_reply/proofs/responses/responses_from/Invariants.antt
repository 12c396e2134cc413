use Rattle.std.proofs.Common.{map}
use Rattle.serde_json.specs.View.{view}
use Rattle.odb_reply.specs.ResponseDocuments.{entry_of}
use Rattle.odb_reply.proofs.DocumentLemmas.{AreReadUpTo}
use Rattle.odb_reply.proofs.responses.responses_from.Given as goal

abbrev pub invariant-loop-at : goal.invariant-loop-at
invariant-loop-at l = AreReadUpTo (map view l.elements) (map entry_of l.list.items) l.at
