use Rattle.std.proofs.Common.{◌+◌}
use Rattle.serde_json.specs.View.{view}
use Rattle.odb_doc.specs.Faults.{document_number}
use Rattle.odb_doc.specs.batch.Shapes.{BreaksDocument}
use Rattle.odb_doc.proofs.ListedLemmas.{NoneBelow}
use Rattle.odb_doc.proofs.batch.object.broken_rule.Given as goal

-- the rules so far are not broken
abbrev pub invariant-loop-rule : goal.invariant-loop-rule
invariant-loop-rule l = NoneBelow document_number (λ rule. BreaksDocument rule (view l.document)) (3 + l.rule-index)
