-- The canonical text in the parts of which it is made: for private clauses, nothing to believe.
use Rattle.std.specs.Prelude.{ℕ, List, ◌++◌, map, nat_lt, drop, codes, Bool}
use Rattle.serde_json.specs.Data.{string}
use Rattle.serde_json.specs.View.{items_of}
use Rattle.serde_json.specs.Written.{items_text, members_text}
use Rattle.odb_doc.specs.canonical.Canonical.{request_value, header_members}
use Rattle.odb_doc.specs.Headers.{Header}
use Rattle.odb_doc.specs.batch.Records.{Record}

-- the text of the names from one of them on, and the end of their array
abbrev pub names_left : Bool → List (List ℕ) → List ℕ
names_left later names = items_text later (items_of (map string names))

-- the text of the headers from one of them on, and the end of their object
abbrev pub headers_left : Bool → List Header → List ℕ
headers_left later headers = members_text later (header_members headers)

-- the text of the requests from a position on, and the end of the whole
unfoldable pub requests_left : List Record → ℕ → List ℕ
requests_left rs i = items_text (nat_lt 0 i) (items_of (map request_value (drop i rs))) ++ codes "}"
