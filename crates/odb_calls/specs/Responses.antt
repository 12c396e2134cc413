-- What a call returns that gives the responses in the document of a service.
use Rattle.std.specs.Prelude.{◌≡◌, ℕ, List, map, string_bytes}
use Rattle.odb_send.specs.declared.responses.ResponseParts.{ResponseParts}
use Rattle.odb_send.specs.declared.responses.ResponseList.{ResponseList}
use Rattle.odb_engine.specs.declared.form.Form.TheVariants.{Lines}
use Rattle.odb_engine.specs.Cascade.{Reports}
use Rattle.odb_live.specs.ServiceResponses.{HasResponses, IsLeastOfResponses}
use Rattle.odb_calls.specs.declared.response.Response.{Response}
use Rattle.odb_calls.specs.Lists.{Gives}
use Rattle.odb_calls.specs.Requests.{part_if, part_of}
use Rattle.odb_calls.specs.Returns.{Returns}

-- the parts of a response as numbers
abbrev pub response_of : ResponseParts → Response
response_of parts = record {
  id = part_of parts.id;
  group = part_if parts.group;
  headers = part_if parts.headers;
  body = part_if parts.body;
  status = parts.status;
}

-- What a call returns that gives the responses in these bytes. Of a document that is refused the text is the line of its least
-- fault, and there are no responses.
pub data GivesResponses (bytes : List ℕ) (status text_length count : ℕ) (text new_text : List ℕ) (responses new_responses : List Response) : Type 0 where
  Given : (found : ResponseList) → HasResponses bytes found → Gives (string_bytes found.text) (map response_of found.parts.items) 0 status text_length count text new_text responses new_responses → GivesResponses bytes status text_length count text new_text responses new_responses
  NotGiven : Returns (Reports (IsLeastOfResponses bytes) Lines) status text_length text new_text → count ≡ 0 → new_responses ≡ responses → GivesResponses bytes status text_length count text new_text responses new_responses
