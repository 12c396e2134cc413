-- The rules of a document and of a request: their numbers and names; and what is printed of their faults.
use Rattle.std.specs.Prelude.{ℕ, List, Option, Some, None, codes}
use Rattle.odb_doc.specs.declared.fault.DocFault.{DocFault}
use Rattle.odb_doc.specs.declared.fault.DocFault.TheVariants as faults
use Rattle.odb_doc.specs.declared.fault.DocumentRule.{DocumentRule}
use Rattle.odb_doc.specs.declared.fault.DocumentRule.TheVariants as document
use Rattle.odb_doc.specs.declared.fault.Place.TheVariants as places
use Rattle.odb_doc.specs.declared.fault.RequestRule.{RequestRule}
use Rattle.odb_doc.specs.declared.fault.RequestRule.TheVariants as request
use Rattle.odb_doc.specs.declared.fault.TextFault.{TextFault}
use Rattle.odb_doc.specs.declared.fault.TextFault.TheVariants as texts
use Rattle.odb_doc.specs.Refusals.{Printed, fault_at, fault_of}

-- the number in the code, and the name
abbrev pub document_label : DocumentRule → ℕ × List ℕ
document_label document.TooLong = (1, codes "TooLong")
document_label document.NotJson = (2, codes "NotJson")
document_label document.NotObject = (3, codes "NotObject")
document_label document.NoRequests = (4, codes "NoRequests")
document_label document.UnknownMember = (5, codes "UnknownMember")
document_label document.TooMany = (6, codes "TooMany")

abbrev pub document_number : DocumentRule → ℕ
document_number rule = (document_label rule).0

-- the number in the code, and the name
abbrev pub request_label : RequestRule → ℕ × List ℕ
request_label request.NotRequestObject = (10, codes "NotRequestObject")
request_label request.IfMember = (11, codes "IfMember")
request_label request.UnknownRequestMember = (12, codes "UnknownRequestMember")
request_label request.BadId = (13, codes "BadId")
request_label request.BadMethod = (14, codes "BadMethod")
request_label request.BadUrl = (15, codes "BadUrl")
request_label request.BadGroup = (16, codes "BadGroup")
request_label request.BadDependsOn = (17, codes "BadDependsOn")
request_label request.BadHeaders = (18, codes "BadHeaders")
request_label request.HeaderTwice = (19, codes "HeaderTwice")
request_label request.BodyNotAllowed = (20, codes "BodyNotAllowed")
request_label request.BadBody = (21, codes "BadBody")
request_label request.NestedBatch = (22, codes "NestedBatch")
request_label request.BadReference = (23, codes "BadReference")

abbrev pub request_number : RequestRule → ℕ
request_number rule = (request_label rule).0

abbrev pub document_row : DocFault → Option Printed
document_row (faults.Document rule) = Some (fault_of (document_label rule) places.Batch)
document_row (faults.Request at rule) = Some (fault_of (request_label rule) (places.Request at))
document_row faults.OutOfMemory = None

abbrev pub text_row : TextFault → Option Printed
text_row (texts.NotWhole at) = Some (fault_at 50 (codes "NotWhole") (places.Request at))
text_row texts.OutOfMemory = None
