-- The canonical value of a batch and its text: members in byte order, without those that mean nothing (OData JSON
-- Format 4.01, section 19.1).
use Rattle.std.specs.Prelude.{ℕ, ◌<◌, List, [], ◌∷◌, map, Option, Some, None, IfSome, option_map, option_and_then, slice_get, length, codes}
use Rattle.serde_json.specs.Data.{Data, string, array, object, Members, no_members, member, put}
use Rattle.serde_json.specs.View.{items_of}
use Rattle.serde_json.specs.Written.{compact_text}
use Rattle.odb_names.specs.Methods.{method_name}
use Rattle.odb_doc.specs.Headers.{Header}
use Rattle.odb_doc.specs.canonical.HeldValues.{IsHeld}
use Rattle.odb_doc.specs.batch.Records.{Record}
use Rattle.odb_doc.specs.WholeNumbers as whole_numbers

-- the array of these names, if there are any
abbrev pub names_value : List (List ℕ) → Option Data
names_value [] = None
names_value (name ∷ names) = Some (array (items_of (map string (name ∷ names))))

-- the members of an object that has these headers
abbrev pub header_members : List Header → Members
header_members [] = no_members
header_members (header ∷ headers) = member header.0 (string header.1) (header_members headers)

-- the object of these headers, if there are any
abbrev pub headers_value : List Header → Option Data
headers_value [] = None
headers_value (header ∷ headers) = Some (object (header_members (header ∷ headers)))

-- with this member, if there is a value for it
abbrev pub with_some : List ℕ → Option Data → Members → Members
with_some name None members = members
with_some name (Some d) members = put name d members

abbrev pub request_members : Record → Members
request_members r =
    with_some (codes "atomicityGroup") (option_map string r.group) (
    with_some (codes "body") r.body (
    with_some (codes "dependsOn") (names_value r.names) (
    with_some (codes "headers") (headers_value r.headers) (
    put (codes "id") (string r.id) (
    put (codes "method") (string (method_name r.method)) (
    put (codes "url") (string r.url) no_members))))))

abbrev pub request_value : Record → Data
request_value r = object (request_members r)

-- the batch of these requests
abbrev pub canonical_value : List Record → Data
canonical_value rs = object (put (codes "requests") (array (items_of (map request_value rs))) no_members)

-- its text, if each number in it is whole
unfoldable pub canonical_text : List Record → List ℕ
canonical_text rs = compact_text (canonical_value rs)

-- the body of the request at a position, if any
abbrev pub body_at : List Record → ℕ → Option Data
body_at rs i = option_and_then (λ r. r.body) (slice_get rs i)

-- each body is one that a `Value` can hold
abbrev pub HasHeldBodies : List Record → Type 0
HasHeldBodies rs = (i : ℕ) → i < length rs → IfSome (body_at rs i) IsHeld

-- each number in the bodies is whole
abbrev pub HasWholeBodies : List Record → Type 0
HasWholeBodies rs = whole_numbers.HasWholeBodies (length rs) (body_at rs)

-- the first request whose body holds a number that is not whole
abbrev pub IsFirstNotWhole : List Record → ℕ → Type 0
IsFirstNotWhole rs at = whole_numbers.IsFirstNotWhole (length rs) (body_at rs) at
