-- What is to be sent of each request of a batch (OData JSON Format 4.01, section 19.1): where its parts lie in a text, and
-- where its body lies in the document.
use Rattle.std.specs.Prelude.{◌≡◌, ◌+◌, ℕ, List, [], ◌∷◌, ◌++◌, length, map, Option, Some, None, option_and_then, ⊤, string_bytes}
use Rattle.std.specs.List.{AllZip, filter_map}
use Rattle.serde_json.specs.Data.{Data, object}
use Rattle.serde_json.specs.Written.{compact_text}
use Rattle.odb_names.specs.Methods.{http_name}
use Rattle.odb_doc.specs.Documents.{IsJson}
use Rattle.odb_doc.specs.canonical.Canonical.{header_members}
use Rattle.odb_doc.specs.batch.Records.{Record, IsBatchOf}
use Rattle.odb_doc.specs.batch.UrlRests.{url_rest}
use Rattle.odb_check.specs.Needs.{further_names, need_of}
use Rattle.odb_check.specs.Texts.{further_text, need_name}
use Rattle.odb_check.specs.Units.{position_of}
use Rattle.odb_check.specs.declared.need.Need.{Need}
use Rattle.odb_spans.specs.declared.span.Span.{Span}
use Rattle.odb_send.specs.declared.parts.RequestParts.{RequestParts}
use Rattle.odb_send.specs.declared.requests.Requests.{Requests}
use Rattle.odb_send.specs.Places.{AreBodiesIn}

-- the span of the text is this part
pub record HasPart (text part : List ℕ) (span : Span) : Type 0 where
  pub before : List ℕ
  pub after : List ℕ
  pub whole : text ≡ before ++ (part ++ after)
  pub starts : span.start ≡ length before
  pub ends : span.end ≡ length before + length part

-- the span of the text is the part, or there is neither
abbrev pub HasPartIf : List ℕ → Option (List ℕ) → Option Span → Type 0
HasPartIf text None None = ⊤
HasPartIf text None (Some span) = ⊥
HasPartIf text (Some part) None = ⊥
HasPartIf text (Some part) (Some span) = HasPart text part span

-- the headers as a JSON object: names in lower case, in byte order
abbrev pub headers_text : Record → List ℕ
headers_text r = compact_text (object (header_members r.headers))

-- what a request of the batch depends on: the names in `dependsOn`, and then the reference unless it is among them
abbrev pub needs_of : List Record → Record → List Need
needs_of batch r = filter_map (need_of batch) (r.names ++ further_names r.names r.reference)

-- their ids and groups, with commas between them
abbrev pub needs_text : List Record → List Need → List ℕ
needs_text batch [] = []
needs_text batch (need ∷ needs) = need_name batch need ++ further_text batch needs

-- where the parts of a request of the batch lie in the text
pub record HasParts (batch : List Record) (text : List ℕ) (r : Record) (parts : RequestParts) : Type 0 where
  pub id : HasPart text r.id parts.id
  pub method : HasPart text (http_name r.method) parts.method
  pub url : HasPart text r.url parts.url
  pub rest : HasPart text (url_rest r) parts.rest
  pub reference : parts.reference ≡ option_and_then (position_of batch) r.reference
  pub headers : HasPart text (headers_text r) parts.headers
  pub group : HasPartIf text r.group parts.group
  pub needs : HasPart text (needs_text batch (needs_of batch r)) parts.needs

-- where the bodies lie
abbrev pub bodies_of : List RequestParts → List (Option Span)
bodies_of parts = map (λ p. p.body) parts

-- what is to be sent of each request of the batch in the document, in order
pub record AreRequestsOf (document : List ℕ) (d : Data) (batch : List Record) (found : Requests) : Type 0 where
  pub parts : AllZip (HasParts batch (string_bytes found.text)) batch found.parts.items
  pub bodies : AreBodiesIn document d (bodies_of found.parts.items)

-- the bytes are the JSON text of the batch
pub record IsBatchIn (document : List ℕ) (d : Data) (batch : List Record) : Type 0 where
  pub json : IsJson document d
  pub is : IsBatchOf d batch
