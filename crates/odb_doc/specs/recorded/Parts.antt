-- An outcome of values that are in no document of outcomes or events.
use Rattle.std.specs.Prelude.{◌≡◌, ◌⊎◌, ℕ, Option, IfSome}
use Rattle.serde_json.specs.Data.{Data}
use Rattle.odb_doc.specs.declared.recorded.outcome.Outcome.{Outcome}
use Rattle.odb_doc.specs.Headers.{HoldsHeaders, IsHeaders}
use Rattle.odb_doc.specs.Members.{given}
use Rattle.odb_doc.specs.WholeNumbers.{IsWhole}

-- The outcome has this status, these headers and this body, by the rules of a report: null is treated as absent, and the
-- body holds whole numbers alone.
pub record HasParts (status : ℕ) (headers body : Option Data) (outcome : Outcome) : Type 0 where
  pub of_status : outcome.status ≡ status
  pub of_headers : HoldsHeaders headers outcome.headers
  pub of_body : outcome.body ≡ given body
  pub whole : IfSome outcome.body IsWhole

-- No report has these parts: the headers are no object of strings whose names differ in lower case, or the body holds a
-- number that is not whole.
abbrev pub AreNoParts : Option Data → Option Data → Type 0
AreNoParts headers body = (¬ IsHeaders headers) ⊎ (¬ IfSome (given body) IsWhole)
