-- The members of a request that are one text each: for private clauses, nothing to believe.
use Rattle.std.specs.Prelude.{◌≡◌, Some, IsNone, IsSome, codes, option_map}
use Rattle.serde_json.specs.Data.{Data}
use Rattle.serde_json.specs.Find.{as_object, get}
use Rattle.odb_doc.specs.declared.batch.line.RequestLine.{RequestLine}
use Rattle.odb_doc.specs.Members.{HasUnknown, request_names}
use Rattle.odb_doc.specs.batch.Shapes.{HasId, HasMethod, HasGroup, url_of}

-- the element is an object of known names, and its members are those of the line
pub record IsLineOf (d : Data) (line : RequestLine) : Type 0 where
  pub object : IsSome (as_object d)
  pub condition : IsNone (get (codes "if") d)
  pub known : ¬ HasUnknown request_names d
  pub id : HasId d line.id.now
  pub method : HasMethod d line.method
  pub url : url_of d ≡ Some line.url.now
  pub group : HasGroup d (option_map (λ group. group.now) line.group)
