-- What the requests of a document without a fault of shape are (OData JSON Format 4.01, section 19.1).
use Rattle.std.specs.Prelude.{◌≡◌, ℕ, List, Option, Some, option_map, IfSome, bytes_eq, string_bytes}
use Rattle.std.specs.List.{AllZip, IsDistinct}
use Rattle.serde_json.specs.Data.{Data}
use Rattle.serde_json.specs.View.{view}
use Rattle.odb_names.specs.Identifiers.{IsRequestId}
use Rattle.odb_names.specs.declared.method.Method.{Method}
use Rattle.odb_doc.specs.declared.batch.request.Request.{Request}
use Rattle.odb_doc.specs.batch.Bodies.{body_of}
use Rattle.odb_doc.specs.Headers.{Header, HasHeaders, lent_headers}
use Rattle.odb_doc.specs.Names.{distinct, texts_in}
use Rattle.odb_doc.specs.batch.References.{RefersTo}
use Rattle.odb_doc.specs.batch.Shapes.{HasId, HasMethod, HasGroup, url_of, listed_names, elements}

-- a request, without where its texts lie
pub record Record : Type 0 where
  pub id : List ℕ
  pub method : Method
  pub url : List ℕ
  pub group : Option (List ℕ)
  pub names : List (List ℕ)
  pub reference : Option (List ℕ)
  pub headers : List Header
  pub body : Option Data

abbrev pub record_of : Request → Record
record_of r = record {
  id = r.id.now;
  method = r.method;
  url = r.url.now;
  group = option_map (λ group. group.now) r.group;
  names = texts_in r.names.items;
  reference = option_map string_bytes r.reference;
  headers = lent_headers r.headers;
  body = option_map (λ body. view body.now) r.body;
}

-- the element reads as this request
pub record ReadsAs (d : Data) (r : Record) : Type 0 where
  pub id : HasId d r.id
  pub method : HasMethod d r.method
  pub url : url_of d ≡ Some r.url
  pub group : HasGroup d r.group
  pub names : option_map distinct (listed_names d) ≡ Some r.names
  pub reference : RefersTo r.url r.reference
  pub headers : HasHeaders d r.headers
  pub body : body_of d ≡ r.body

-- what holds of each request of a batch: its identifier and its group have the form of identifiers, and
-- no name is in `dependsOn` twice
pub record IsWellFormedRecord (r : Record) : Type 0 where
  pub id : IsRequestId r.id
  pub group : IfSome r.group IsRequestId
  pub names : IsDistinct bytes_eq r.names

-- the elements of the document read as these requests, one by one
abbrev pub IsBatchOf : Data → List Record → Type 0
IsBatchOf d rs = AllZip ReadsAs (elements d) rs
