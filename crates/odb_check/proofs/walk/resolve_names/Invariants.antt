use Rattle.std.proofs.Common.{◌≡◌, ◌+◌, true, take}
use Rattle.odb_doc.specs.Names.{texts_in}
use Rattle.odb_check.specs.NameFaults.{IsBrokenAt}
use Rattle.odb_check.specs.Requests.{requests}
use Rattle.odb_check.specs.declared.fault.NameRule.TheVariants.{UnknownName}
use Rattle.odb_check.proofs.WalkLemmas.{AreResolved}
use Rattle.odb_check.proofs.walk.resolve_names.Given as goal

-- the names so far are resolved
abbrev pub invariant-loop-name : goal.invariant-loop-name
invariant-loop-name l = record {
  resolved : AreResolved (requests l.tables) (texts_in (take l.name-index l.names)) l.has_unknown (l.i + 1) l.row.items l.marks.ones.items l.marks.groups.items;
  unknown : l.has_unknown ≡ true → IsBrokenAt UnknownName (requests l.tables) l.i;
}
