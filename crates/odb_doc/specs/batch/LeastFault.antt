-- Which fault of a batch document is reported: the least by phase, position and number.
use Rattle.std.specs.Prelude.{ℕ, List}
use Rattle.serde_json.specs.Data.{Data}
use Rattle.odb_doc.specs.declared.fault.DocumentRule.{DocumentRule}
use Rattle.odb_doc.specs.declared.fault.RequestRule.{RequestRule}
use Rattle.odb_doc.specs.declared.fault.DocFault.{DocFault}
use Rattle.odb_doc.specs.declared.fault.DocFault.TheVariants as faults
use Rattle.odb_doc.specs.Faults.{document_number, request_number}
use Rattle.odb_doc.specs.LeastRules.{IsLeast, BreaksAt, NoneBroken, IsFirst}
use Rattle.odb_doc.specs.batch.Shapes.{BreaksDocument, BreaksRequest, elements}

-- no rule of the document is broken
abbrev pub IsBatchObject : Data → Type 0
IsBatchObject d = (rule : DocumentRule) → ¬ BreaksDocument rule d

-- the rule is broken by the request at the position
abbrev pub BreaksRequestAt : List Data → RequestRule → ℕ → Type 0
BreaksRequestAt ds = BreaksAt (λ rule before d. BreaksRequest rule d) ds

-- the document has no fault of shape
abbrev pub IsWellShaped : Data → Type 0
IsWellShaped d = IsBatchObject d × NoneBroken (BreaksRequestAt (elements d))

-- the rule is broken, and none with a smaller number is
abbrev pub IsLeastDocumentRule : Data → DocumentRule → Type 0
IsLeastDocumentRule d rule = IsLeast document_number (λ other. BreaksDocument other d) rule

-- the rule is broken at the position, none with a smaller number is, and none at all before
abbrev pub IsFirstBroken : List Data → ℕ → RequestRule → Type 0
IsFirstBroken ds at rule = IsFirst request_number (BreaksRequestAt ds) at rule

-- the fault is the least of shape. Out of memory may come in place of any, but see the clauses `memory`.
abbrev pub IsLeastFault : DocFault → Data → Type 0
IsLeastFault (faults.Document rule) d = IsLeastDocumentRule d rule
IsLeastFault (faults.Request at rule) d = IsBatchObject d × IsFirstBroken (elements d) at rule
IsLeastFault faults.OutOfMemory d = Unit {0}
