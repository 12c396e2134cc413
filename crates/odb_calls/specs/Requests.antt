-- What a call returns that gives what is to be sent of the requests of a batch.
use Rattle.std.specs.Prelude.{◌≡◌, ◌-◌, ℕ, List, map, Option, Some, None, string_bytes}
use Rattle.odb_spans.specs.declared.span.Span.{Span}
use Rattle.odb_send.specs.declared.parts.RequestParts.{RequestParts}
use Rattle.odb_send.specs.declared.requests.Requests.{Requests}
use Rattle.odb_engine.specs.declared.form.Form.TheVariants.{Lines}
use Rattle.odb_engine.specs.Cascade.{IsLeast, Reports}
use Rattle.odb_live.specs.Requests.{Sends}
use Rattle.odb_calls.specs.declared.request.Part.{Part}
use Rattle.odb_calls.specs.declared.request.Request.{Request}
use Rattle.odb_calls.specs.Lists.{Gives}
use Rattle.odb_calls.specs.Returns.{Returns}

-- where a part starts that is not there
abbrev pub none : ℕ
none = 18446744073709551615

abbrev pub part_of : Span → Part
part_of span = record { start = span.start; length = span.end - span.start }

abbrev pub part_if : Option Span → Part
part_if None = record { start = none; length = 0 }
part_if (Some span) = part_of span

abbrev pub position_if : Option ℕ → ℕ
position_if None = none
position_if (Some position) = position

-- the parts of a request as numbers
abbrev pub request_of : RequestParts → Request
request_of parts = record {
  id = part_of parts.id;
  method = part_of parts.method;
  url = part_of parts.url;
  rest = part_of parts.rest;
  headers = part_of parts.headers;
  group = part_if parts.group;
  needs = part_of parts.needs;
  body = part_if parts.body;
  reference = position_if parts.reference;
}

-- What a call returns that gives what is to be sent of the batch in these bytes. Of a batch that is refused the text is the
-- line of its least fault, and there are no requests.
pub data GivesRequests (bytes : List ℕ) (status text_length count : ℕ) (text new_text : List ℕ) (requests new_requests : List Request) : Type 0 where
  Given : (found : Requests) → Sends bytes found → Gives (string_bytes found.text) (map request_of found.parts.items) 0 status text_length count text new_text requests new_requests → GivesRequests bytes status text_length count text new_text requests new_requests
  NotGiven : Returns (Reports (IsLeast bytes) Lines) status text_length text new_text → count ≡ 0 → new_requests ≡ requests → GivesRequests bytes status text_length count text new_text requests new_requests
