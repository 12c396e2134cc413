use Rattle.std.proofs.Common.{◌≡◌, ◌++◌, List}
use Rattle.std.specs.List.Sorted.{IsStrictlySortedBy}
use Rattle.std.specs.Map.{keys_of}
use Rattle.std.specs.String.{string_cmp}
use Rattle.serde_json.specs.Data.{object}
use Rattle.serde_json.specs.View.{members_view}
use Rattle.odb_doc.specs.HeaderMaps.{Entry}
use Rattle.odb_doc.specs.batch.MembersFound.{AreMembersOf}
use Rattle.odb_doc.proofs.batch.members.Members.among.Given as goal

-- the members so far have been found
abbrev pub invariant-loop-name : goal.invariant-loop-name
invariant-loop-name l = record {
  done : List Entry;
  split : l.members.entries ≡ done ++ l.name-iterator;
  ordered : IsStrictlySortedBy string_cmp (keys_of (done ++ l.name-iterator));
  found : AreMembersOf (object (members_view done)) l.found;
}
