use Rattle.std.proofs.Common.{◌+◌}
use Rattle.odb_doc.specs.Asked.{asked}
use Rattle.odb_doc.specs.Faults.{request_number}
use Rattle.odb_doc.specs.batch.Shapes.{BreaksRequest}
use Rattle.odb_doc.proofs.ListedLemmas.{NoneBelow}
use Rattle.odb_doc.proofs.batch.asked.Asked.broken_rule.Given as goal

-- the rules so far are not broken
abbrev pub invariant-loop-rule : goal.invariant-loop-rule
invariant-loop-rule l = NoneBelow request_number (λ rule. BreaksRequest rule (asked l.self)) (10 + l.rule-index)
