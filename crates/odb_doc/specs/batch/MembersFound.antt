-- The members of a request as one pass over its object finds them: for private clauses, nothing to believe.
use Rattle.std.specs.Prelude.{◌≡◌, ◌||◌, ℕ, List, Option, Some, option_map, codes, bytes_eq, if◌then◌else◌}
use Rattle.std.specs.Borrow.{Bor}
use Rattle.std.specs.List.{list_any}
use Rattle.serde_json.specs.Data.{Data}
use Rattle.serde_json.specs.Find.{get}
use Rattle.serde_json.specs.View.{view}
use Rattle.serde_json.specs.declared.value.Value.{Value}
use Rattle.odb_names.specs.declared.method.Method.{Method}
use Rattle.odb_doc.specs.declared.batch.members.Members.{Members}
use Rattle.odb_doc.specs.declared.fault.RequestRule.TheVariants as rules
use Rattle.odb_doc.specs.Headers.{Header, HasHeaders}
use Rattle.odb_doc.specs.batch.Shapes.{BreaksRequest, HasMethod}
use Rattle.odb_doc.specs.Members.{is_unknown, names_in, request_names}

-- the data at a place
abbrev pub data_of : Option (Bor Value) → Option Data
data_of place = option_map (λ value. view value.now) place

-- they are the values at the names of a request, with whether there is an unknown name
pub record AreMembersOf (d : Data) (members : Members) : Type 0 where
  pub id : data_of members.id ≡ get (codes "id") d
  pub method : data_of members.method ≡ get (codes "method") d
  pub url : data_of members.url ≡ get (codes "url") d
  pub group : data_of members.group ≡ get (codes "atomicityGroup") d
  pub depends_on : data_of members.depends_on ≡ get (codes "dependsOn") d
  pub condition : data_of members.condition ≡ get (codes "if") d
  pub headers : data_of members.headers ≡ get (codes "headers") d
  pub body : data_of members.body ≡ get (codes "body") d
  pub unknown : members.has_unknown ≡ list_any (is_unknown request_names) (names_in d)

-- the value if the name is this one, and else what was there
abbrev pub put_at : List ℕ → List ℕ → Data → Option (Bor Value) → Option Data
put_at place name d old = if bytes_eq place name then Some d else data_of old

-- a member of this name and value makes the old ones the new ones
pub record PutsMember (name : List ℕ) (d : Data) (old new : Members) : Type 0 where
  pub id : data_of new.id ≡ put_at (codes "id") name d old.id
  pub method : data_of new.method ≡ put_at (codes "method") name d old.method
  pub url : data_of new.url ≡ put_at (codes "url") name d old.url
  pub group : data_of new.group ≡ put_at (codes "atomicityGroup") name d old.group
  pub depends_on : data_of new.depends_on ≡ put_at (codes "dependsOn") name d old.depends_on
  pub condition : data_of new.condition ≡ put_at (codes "if") name d old.condition
  pub headers : data_of new.headers ≡ put_at (codes "headers") name d old.headers
  pub body : data_of new.body ≡ put_at (codes "body") name d old.body
  pub unknown : new.has_unknown ≡ (old.has_unknown || is_unknown request_names name)

-- the members, and the method and headers that were read of them
pub record HasParts (d : Data) (members : Members) (method : Method) (headers : List Header) : Type 0 where
  pub are : AreMembersOf d members
  pub has_method : HasMethod d method
  pub has_headers : HasHeaders d headers

-- the body breaks no rule
abbrev pub FitsBody : Data → Type 0
FitsBody d = ¬ BreaksRequest rules.BodyNotAllowed d × ¬ BreaksRequest rules.BadBody d
