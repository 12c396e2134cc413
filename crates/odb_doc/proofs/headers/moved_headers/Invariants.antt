use Rattle.std.proofs.Common.{◌≡◌, ◌++◌}
use Rattle.odb_doc.specs.HeaderMaps.{HoldsMembers}
use Rattle.odb_doc.proofs.headers.moved_headers.Given as goal

-- the map holds the headers of the members so far
abbrev pub invariant-loop-name : goal.invariant-loop-name
invariant-loop-name g l = record {
  split : l.fn.members.entries ≡ l.yielded ++ l.name-iterator;
  holds : HoldsMembers l.yielded l.headers;
}
