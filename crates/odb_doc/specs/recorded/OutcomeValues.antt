-- An outcome as contracts see it: its status, headers and body, wherever they are in memory.
use Rattle.std.specs.Prelude.{◌≤◌, ℕ, List, Option, IfSome, refl}
use Rattle.std.specs.Coded.{Coded, code_by, coded×, coded_list, coded_option, coded_ℕ}
use Rattle.serde_json.specs.Data.{Data, depth}
use Rattle.odb_doc.specs.DataCodes.{data_code}
use Rattle.odb_doc.specs.Headers.{Header, IsInOrder}
use Rattle.odb_doc.specs.canonical.HeldValues.{IsHeld}

-- the HTTP status, the headers by their names in byte order, and the body if there is one
pub record OutcomeValue : Type 0 where
  pub status : ℕ
  pub headers : List Header
  pub body : Option Data

-- what memory can hold: headers in order of their names, and a body of integers of 64 bits and members in order
pub record IsHeldOutcome (outcome : OutcomeValue) : Type 0 where
  pub headers : IsInOrder outcome.headers
  pub body : IfSome outcome.body IsHeld

-- a body that nests at most 124 deep, as one does three levels deep in a document that nests at most 127
abbrev pub IsShallow : Option Data → Type 0
IsShallow body = IfSome body (λ d. depth d ≤ 124)

-- what a document can record: an outcome that memory holds, with a body that nests at most 124 deep
abbrev pub IsRecordable : OutcomeValue → Type 0
IsRecordable outcome = IsHeldOutcome outcome × IsShallow outcome.body

abbrev pub outcome_code : Coded OutcomeValue
outcome_code =
    code_by (ℕ × (List Header × Option Data)) (coded× coded_ℕ (coded× (coded_list (coded× (coded_list coded_ℕ) (coded_list coded_ℕ))) (coded_option data_code)))
    (λ o. (o.status, (o.headers, o.body))) (λ p. record { status = p.0; headers = p.1.0; body = p.1.1 }) (λ _. refl)
