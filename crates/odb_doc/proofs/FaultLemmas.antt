-- A value has one least fault of shape.
use Rattle.std.proofs.Common.{◌≡◌, ap, IsSome, rules}
use Rattle.std.proofs.lemmas.Bool.{false≢true}
use Rattle.serde_json.specs.Data.{Data}
use Rattle.odb_doc.specs.declared.fault.DocumentRule.{DocumentRule}
use Rattle.odb_doc.specs.declared.fault.RequestRule.{RequestRule}
use Rattle.odb_doc.specs.declared.fault.DocFault.{DocFault}
use Rattle.odb_doc.specs.declared.fault.DocFault.TheVariants as faults
use Rattle.odb_doc.specs.Faults.{document_row, document_number, request_number}
use Rattle.odb_doc.specs.batch.LeastFault.{BreaksRequestAt, IsWellShaped, IsLeastFault}
use Rattle.odb_doc.proofs.OneLeast.{one_least, one_first}
use Rattle.odb_doc.specs.batch.Shapes.{BreaksDocument, elements}

-- ---- rules with one number are equal

pub same_document_rule : (rule other : DocumentRule) → document_number rule ≡ document_number other → rule ≡ other
same_document_rule rule other same = search rules

pub same_request_rule : (rule other : RequestRule) → request_number rule ≡ request_number other → rule ≡ other
same_request_rule rule other same = search rules

-- ---- the least fault is one

pub one_fault : (d : Data) (fault other : DocFault) → IsSome (document_row fault) → IsSome (document_row other) → IsLeastFault fault d → IsLeastFault other d → fault ≡ other
one_fault d (faults.Document rule) (faults.Document other) numbered numbered' one two =
    ap faults.Document (one_least document_number (λ r. BreaksDocument r d) same_document_rule rule other one two)
one_fault d (faults.Document rule) (faults.Request at other) numbered numbered' one two = absurd (two.0 rule one.broken)
one_fault d (faults.Document rule) faults.OutOfMemory numbered numbered' one two = absurd (false≢true numbered')
one_fault d (faults.Request at rule) (faults.Document other) numbered numbered' one two = absurd (one.0 other two.broken)
one_fault d (faults.Request at rule) (faults.Request other_at other) numbered numbered' one two =
    let same = one_first request_number (BreaksRequestAt (elements d)) same_request_rule at other_at rule other one.1 two.1 in
    cc (same.0, same.1)
one_fault d (faults.Request at rule) faults.OutOfMemory numbered numbered' one two = absurd (false≢true numbered')
one_fault d faults.OutOfMemory other numbered numbered' one two = absurd (false≢true numbered)

pub no_fault : (d : Data) (fault : DocFault) → IsSome (document_row fault) → IsLeastFault fault d → ¬ IsWellShaped d
no_fault d (faults.Document rule) numbered least shaped = shaped.0 rule least.broken
no_fault d (faults.Request at rule) numbered least shaped = shaped.1 rule at least.1.here.broken
no_fault d faults.OutOfMemory numbered least shaped = false≢true numbered
