use Rattle.odb_check.specs.Marks.{AreUpTo}
use Rattle.odb_check.specs.PhaseFaults.{ListsPhase}
use Rattle.odb_check.specs.Requests.{requests}
use Rattle.odb_check.proofs.all_faults.dependency_faults.Given as goal

-- the faults of the requests so far
abbrev pub invariant-loop-i : goal.invariant-loop-i
invariant-loop-i l = record {
  marks : AreUpTo (requests l.tables) l.i l.marks.ones.items l.marks.groups.items;
  lists : ListsPhase 4 (requests l.tables) (l.i, 0) l.faults.items;
}
