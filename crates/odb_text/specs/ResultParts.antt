-- For invariants and private clauses: the results as JSON by their parts.
use Rattle.std.specs.Prelude.{ℕ, Bool, ◌-◌, List, [], ◌++◌, Option, Some, None, nat_lt, decimal, codes}
use Rattle.serde_json.specs.Data.{Data, object, string}
use Rattle.serde_json.specs.Written.{compact_text, comma_if}
use Rattle.odb_names.specs.Methods.{http_name}
use Rattle.odb_doc.specs.Headers.{Header}
use Rattle.odb_doc.specs.Refusals.{Printed}
use Rattle.odb_doc.specs.batch.Records.{Record}
use Rattle.odb_doc.specs.batch.UrlRests.{url_rest}
use Rattle.odb_doc.specs.canonical.Canonical.{header_members}
use Rattle.odb_spans.specs.declared.position.Position.{Position}
use Rattle.odb_spans.specs.declared.span.Span.{Span}
use Rattle.odb_text.specs.Lines.{PrintedAt, place_text}

-- a piece, and then the text of a string
abbrev pub string_part : List ℕ → List ℕ → List ℕ
string_part piece value = piece ++ compact_text (string value)

-- the member `group` and a comma, if there is a group
abbrev pub group_part : Option (List ℕ) → List ℕ
group_part None = []
group_part (Some group) = string_part (codes "\"group\":") group ++ codes ","

-- the members `id` and `level`, each with a comma
abbrev pub id_part : List ℕ → ℕ → List ℕ
id_part id level = string_part (codes "\"id\":") id ++ (codes ",\"level\":" ++ (decimal level ++ codes ","))

-- the member `body` and a comma, if there is a body
abbrev pub body_part : Option Span → List ℕ
body_part None = []
body_part (Some span) = codes "\"body\":{\"length\":" ++ (decimal (span.end - span.start) ++ (codes ",\"offset\":" ++ (decimal span.start ++ codes "},")))

-- the member `headers` and a comma
abbrev pub headers_part : List Header → List ℕ
headers_part headers = codes "\"headers\":" ++ (compact_text (object (header_members headers)) ++ codes ",")

-- the members `body`, `group`, `headers`, `id`, `level` and `method` of a request
abbrev pub before_needs_part : Option Span → ℕ → Record → List ℕ
before_needs_part body level r = body_part body ++ (group_part r.group ++ (headers_part r.headers ++ (id_part r.id level ++ string_part (codes "\"method\":") (http_name r.method))))

-- a comma and the member `reference`, if the URL refers to a request
abbrev pub reference_part : Option (List ℕ) → List ℕ
reference_part None = []
reference_part (Some id) = string_part (codes ",\"reference\":") id

-- the members `reference`, `rest` and `url`, each with a comma first, and the end of the request
abbrev pub url_part : Record → List ℕ
url_part r = reference_part r.reference ++ (string_part (codes ",\"rest\":") (url_rest r) ++ (string_part (codes ",\"url\":") r.url ++ codes "}"))

-- the members `code`, `name` and `place` of a fault
abbrev pub fault_part : Printed → List ℕ
fault_part refusal = string_part (codes "\"code\":") refusal.code ++ (string_part (codes ",\"name\":") refusal.name ++ string_part (codes ",\"place\":") (place_text refusal.place))

-- the members `line`, `column` and `offset` of a fault with a position, each with a comma first
abbrev pub position_part : Option Position → List ℕ
position_part None = []
position_part (Some position) = codes ",\"line\":" ++ (decimal position.line ++ (codes ",\"column\":" ++ (decimal position.column ++ (codes ",\"offset\":" ++ decimal position.offset))))

-- a fault of a list, with a comma first if one comes before it
abbrev pub listed_part : Bool → PrintedAt → List ℕ
listed_part later fault = comma_if later ++ (codes "{" ++ (fault_part fault.refusal ++ (position_part fault.position ++ codes "}")))

-- the element of an array at a position, with a comma first unless it is the first one
unfoldable pub element : (ℕ → Data) → ℕ → List ℕ
element value i = comma_if (nat_lt 0 i) ++ compact_text (value i)
