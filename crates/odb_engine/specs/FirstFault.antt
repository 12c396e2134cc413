-- The first fault of a batch document: all its rules, F01 to F46, in one order (OData JSON Format 4.01, sections 19.1 and 19.2).
use Rattle.std.specs.Prelude.{◌≡◌, ◌⊎◌, ℕ, List, Option, Some}
use Rattle.odb_doc.specs.declared.fault.DocFault.TheVariants as doc
use Rattle.odb_doc.specs.declared.fault.DocumentRule.{DocumentRule}
use Rattle.odb_doc.specs.declared.fault.RequestRule.{RequestRule}
use Rattle.odb_doc.specs.Documents.{RefusesDocument}
use Rattle.odb_doc.specs.Faults.{document_number, document_row, request_number}
use Rattle.odb_doc.specs.LeastRules.{IsFirstByPhase}
use Rattle.odb_doc.specs.Refusals.{Printed}
use Rattle.odb_doc.specs.batch.LeastFault.{BreaksRequestAt}
use Rattle.odb_doc.specs.batch.Records.{IsBatchOf, Record}
use Rattle.odb_doc.specs.batch.Shapes.{BreaksDocument, elements}
use Rattle.odb_doc.specs.declared.rule_fault.RuleFault.TheVariants as check
use Rattle.odb_check.specs.declared.fault.NameRule.{NameRule}
use Rattle.odb_check.specs.FaultTable.{check_row}
use Rattle.odb_check.specs.FaultTable as table
use Rattle.odb_check.specs.NameFaults.{IsBrokenAt}
use Rattle.odb_engine.specs.Cascade.{HasValue}

-- a rule of the document as a whole, of a request, or of the names of a request
pub data Rule : Type 0 where
  Document : DocumentRule → Rule
  Request : RequestRule → Rule
  Names : NameRule → Rule

-- The phase and the number: F01 to F06 are phase 0, F10 to F23 phase 1, F30 to F32 phase 3 and F40 to F46 phase 4.
abbrev pub order : Rule → ℕ × ℕ
order (Document rule) = (0, document_number rule)
order (Request rule) = (1, request_number rule)
order (Names rule) = (table.phase rule, table.number rule)

-- what is printed of the rule at a position
abbrev pub row : Rule → ℕ → Option Printed
row (Document rule) at = document_row (doc.Document rule)
row (Request rule) at = document_row (doc.Request at rule)
row (Names rule) at = check_row (check.Broken at rule)

-- The bytes break the rule at the position. The document as a whole has position 0. A request is an element of `requests`. Names
-- are compared between requests, so all elements must read as requests.
abbrev pub Breaks : List ℕ → Rule → ℕ → Type 0
Breaks bytes (Document rule) at = (at ≡ 0) × (RefusesDocument (doc.Document rule) bytes ⊎ HasValue bytes (BreaksDocument rule))
Breaks bytes (Request rule) at = HasValue bytes (λ value. BreaksRequestAt (elements value) rule at)
Breaks bytes (Names rule) at = HasValue bytes (λ value. (requests : List Record) × IsBatchOf value requests × IsBrokenAt rule requests at)

-- the rule is broken at the position, and no rule before it is: by phase, then by position, then by number
abbrev pub IsFirstFault : List ℕ → Rule → ℕ → Type 0
IsFirstFault bytes rule at = IsFirstByPhase (λ rule. (order rule).0) (λ rule. (order rule).1) (Breaks bytes) at rule

-- the refusal is what is printed of the first fault
pub record PrintsFirst (bytes : List ℕ) (refusal : Printed) : Type 0 where
  pub rule : Rule
  pub at : ℕ
  pub first : IsFirstFault bytes rule at
  pub is : row rule at ≡ Some refusal
