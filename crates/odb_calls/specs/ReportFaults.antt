-- What is written of the headers and the body of a report.
use Rattle.std.specs.Prelude.{◌⊎◌, ℕ, List, [], Option}
use Rattle.odb_doc.specs.Refusals.{Printed}
use Rattle.odb_doc.specs.declared.recorded.outcome.Outcome.{Outcome}
use Rattle.odb_engine.specs.Cascade.{Prints, Reports, WritesIn}
use Rattle.odb_calls.specs.Live.{IsReported, IsReportedBody}
use Rattle.odb_calls.specs.Refused.{RefusesBody, RefusesHeaders}

-- the fault of a report: that of its headers, or else of its body
pub data IsFaultOfReport (headers body : List ℕ) (refusal : Printed) : Type 0 where
  OfHeaders : RefusesHeaders headers refusal → IsFaultOfReport headers body refusal
  OfBody : (outcome : Outcome) → IsReported 200 headers outcome → RefusesBody body refusal → IsFaultOfReport headers body refusal

-- a report may have these headers and this body
pub record MayReport (headers body : List ℕ) : Type 0 where
  pub outcome : Outcome
  pub of_headers : IsReported 200 headers outcome
  pub text : Option (List ℕ)
  pub of_body : IsReportedBody body text

-- what is written of the headers and the body of a report: their fault, or nothing
abbrev pub ChecksReport : List ℕ → List ℕ → WritesIn
ChecksReport headers body form ended text = Reports (IsFaultOfReport headers body) form ended text ⊎ (MayReport headers body × Prints [] ended text)
