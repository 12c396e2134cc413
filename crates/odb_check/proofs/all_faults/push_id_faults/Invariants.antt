use Rattle.std.proofs.Common.{◌+◌}
use Rattle.odb_check.specs.PhaseFaults.{ListsPhase}
use Rattle.odb_check.specs.Requests.{requests}
use Rattle.odb_check.proofs.all_faults.push_id_faults.Given as goal

-- the faults of the rules so far
abbrev pub invariant-loop-rule : goal.invariant-loop-rule
invariant-loop-rule l = ListsPhase 3 (requests l.tables) (l.i, 30 + l.rule-index) l.faults.items
