use Rattle.std.proofs.Common.{◌≡◌, length, map}
use Rattle.serde_json.specs.View.{view}
use Rattle.odb_doc.specs.batch.Records.{record_of}
use Rattle.odb_doc.proofs.RequestLemmas.{AreReadUpTo}
use Rattle.odb_doc.proofs.batch.requests_from.Given as goal

abbrev pub invariant-loop-at : goal.invariant-loop-at
invariant-loop-at l = record {
  read : AreReadUpTo (map view l.elements) (map record_of l.requests.items) l.at;
  count : length l.requests.items ≡ l.at;
}
