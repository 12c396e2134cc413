use Rattle.std.proofs.Common.{◌+◌}
use Rattle.odb_doc.proofs.ListedLemmas.{NoneBelow}
use Rattle.odb_check.specs.FaultTable.{number}
use Rattle.odb_check.specs.Resolved.{batch_of}
use Rattle.odb_check.specs.Walks.{BreaksIn}
use Rattle.odb_check.proofs.names.Resolved.broken_rule.Given as goal

-- the rules so far are not broken
abbrev pub invariant-loop-rule : goal.invariant-loop-rule
invariant-loop-rule l = NoneBelow number (λ rule. BreaksIn 4 (batch_of l.self) rule l.self.i) (40 + l.rule-index)
