-- Where the parts of the responses of a service lie (OData JSON Format 4.01, section 19.5): ids and groups in a text, headers and
-- bodies in the document.
use Rattle.std.specs.Prelude.{◌≡◌, ℕ, List, map, Option, codes, string_bytes}
use Rattle.std.specs.List.{AllZip}
use Rattle.serde_json.specs.Data.{Data}
use Rattle.odb_reply.specs.ResponseDocuments.{Entry, ReadsAs, responses_in}
use Rattle.odb_spans.specs.declared.span.Span.{Span}
use Rattle.odb_send.specs.Parts.{HasPart, HasPartIf}
use Rattle.odb_send.specs.Places.{AreMembers}
use Rattle.odb_send.specs.declared.responses.ResponseParts as declared
use Rattle.odb_send.specs.declared.responses.ResponseList.{ResponseList}

-- where the parts of a response lie in the text, and its status
pub record HasResponseParts (text : List ℕ) (entry : Entry) (parts : declared.ResponseParts) : Type 0 where
  pub id : HasPart text entry.id parts.id
  pub group : HasPartIf text entry.group parts.group
  pub status : parts.status ≡ entry.status

-- where the headers lie, and the bodies
abbrev pub headers_of : List declared.ResponseParts → List (Option Span)
headers_of parts = map (λ p. p.headers) parts

abbrev pub bodies_of : List declared.ResponseParts → List (Option Span)
bodies_of parts = map (λ p. p.body) parts

-- the responses of the document, in order, by the entries that its elements are read as
pub record AreResponsesOf (document : List ℕ) (d : Data) (entries : List Entry) (found : ResponseList) : Type 0 where
  pub read : AllZip ReadsAs (responses_in d) entries
  pub parts : AllZip (HasResponseParts (string_bytes found.text)) entries found.parts.items
  pub headers : AreMembers (codes "responses") (codes "headers") document d (headers_of found.parts.items)
  pub bodies : AreMembers (codes "responses") (codes "body") document d (bodies_of found.parts.items)
