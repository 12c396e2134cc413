use Rattle.std.proofs.Common.{◌≡◌, ◌++◌, List}
use Rattle.std.specs.BTreeMap.IterMut.{iter_mut_rest}
use Rattle.std.specs.List.Sorted.{IsStrictlySortedBy}
use Rattle.std.specs.Map.{keys_of}
use Rattle.std.specs.String.{string_cmp}
use Rattle.serde_json.specs.Data.{object}
use Rattle.serde_json.specs.View.{members_view}
use Rattle.odb_doc.specs.HeaderMaps.{Entry}
use Rattle.odb_doc.specs.recorded.RawOutcomes.{AreFoundIn}
use Rattle.odb_doc.proofs.recorded.outcome.Parts.among.Given as goal

-- the members so far have been found
abbrev pub invariant-loop-name : goal.invariant-loop-name
invariant-loop-name l = record {
  done : List Entry;
  split : l.fn.members.entries ≡ done ++ iter_mut_rest l.name-iterator;
  ordered : IsStrictlySortedBy string_cmp (keys_of (done ++ iter_mut_rest l.name-iterator));
  found : AreFoundIn l.kind l.id_name (object (members_view done)) l.parts;
}
