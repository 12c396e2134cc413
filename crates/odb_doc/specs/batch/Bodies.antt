-- The body of a request (OData JSON Format 4.01, section 19.1, `body`).
use Rattle.std.specs.Prelude.{◌≡◌, ℕ, List, [], Option, Some, unwrap_or, codes, bytes_eq}
use Rattle.std.specs.Map.{lookup}
use Rattle.serde_json.specs.Data.{Data}
use Rattle.serde_json.specs.Find.{get}
use Rattle.odb_doc.specs.Headers.{Header, HasHeaders}
use Rattle.odb_doc.specs.batch.MediaTypes.{AllowsBody}
use Rattle.odb_doc.specs.Members.{given}

-- the value at `body`, none if it is null
abbrev pub body_of : Data → Option Data
body_of d = given (get (codes "body") d)

-- the value of `content-type`, or the empty text if there is none
abbrev pub content_type : List Header → List ℕ
content_type headers = unwrap_or (lookup (bytes_eq (codes "content-type")) headers) []

-- there are headers, and a body that their media type does not allow
pub record HasBadBody (d : Data) : Type 0 where
  pub headers : List Header
  pub has : HasHeaders d headers
  pub body : Data
  pub given : body_of d ≡ Some body
  pub bad : ¬ AllowsBody (content_type headers) body
