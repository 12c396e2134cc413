use Rattle.std.proofs.Common.{◌≡◌, ◌++◌, List, map}
use Rattle.std.specs.Map.{keys_of}
use Rattle.std.specs.Str.{str_to_ascii_lowercase}
use Rattle.serde_json.specs.View.{members_view}
use Rattle.odb_doc.specs.HeaderMaps.{Entry}
use Rattle.odb_doc.specs.Headers.{lent_header}
use Rattle.odb_doc.specs.Members.{names_of}
use Rattle.odb_doc.proofs.batch.headers.names_of.Given as goal

-- the names of the members so far
abbrev pub invariant-loop-name : goal.invariant-loop-name
invariant-loop-name l = record {
  done : List Entry;
  split : l.members.entries ≡ done ++ l.name-iterator;
  are : keys_of (map lent_header l.found.items) ≡ map str_to_ascii_lowercase (names_of (members_view done));
}
