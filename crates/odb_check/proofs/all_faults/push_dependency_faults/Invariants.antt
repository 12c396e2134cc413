use Rattle.std.proofs.Common.{◌+◌}
use Rattle.odb_check.specs.PhaseFaults.{ListsPhase}
use Rattle.odb_check.specs.Requests.{requests}
use Rattle.odb_check.proofs.all_faults.push_dependency_faults.Given as goal

-- the faults of the rules so far
abbrev pub invariant-loop-rule : goal.invariant-loop-rule
invariant-loop-rule l = ListsPhase 4 (requests l.tables) (l.i, 40 + l.rule-index) l.faults.items
