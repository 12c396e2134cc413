use Rattle.std.proofs.Common.{◌+◌}
use Rattle.odb_doc.proofs.ListedLemmas.{NoneBelow}
use Rattle.odb_check.specs.FaultTable.{number}
use Rattle.odb_check.specs.Requests.{requests}
use Rattle.odb_check.specs.Walks.{BreaksIn}
use Rattle.odb_check.proofs.ids.broken_rule.Given as goal

-- the rules so far are not broken
abbrev pub invariant-loop-rule : goal.invariant-loop-rule
invariant-loop-rule l = NoneBelow number (λ rule. BreaksIn 3 (requests l.tables) rule l.i) (30 + l.rule-index)
