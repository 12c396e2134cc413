use Rattle.std.proofs.Common.{◌≡◌, ◌++◌, List, Some, map}
use Rattle.serde_json.specs.View.{members_view}
use Rattle.odb_doc.specs.HeaderMaps.{Entry, written}
use Rattle.odb_doc.specs.Headers.{text_members}
use Rattle.odb_doc.proofs.batch.headers.texts_of.Given as goal

-- the headers of the members so far
abbrev pub invariant-loop-name : goal.invariant-loop-name
invariant-loop-name l = record {
  done : List Entry;
  split : l.members.entries ≡ done ++ l.name-iterator;
  are : text_members (members_view done) ≡ Some (map written l.found.items);
}
