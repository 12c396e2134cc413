-- What is recorded of the answer to a request that has succeeded: the Location of what it has made (RFC 9110, section 10.2.2)
-- and its ETag (section 8.8.3; OData JSON Format 4.01, section 19.5, `headers`).
use Rattle.std.specs.Prelude.{ℕ, Bool, List, [], ◌∷◌, map, Option, Some, None, option_and_then, option_map, slice_get, slice_index, slice_index_or, codes, bytes_eq, if◌then◌else◌}
use Rattle.std.specs.Borrow.{Bor}
use Rattle.std.specs.Str.{str_to_ascii_lowercase}
use Rattle.serde_json.specs.Data.{Data, Members, no_members, member}
use Rattle.serde_json.specs.Find.{get, as_str, as_object}
use Rattle.odb_doc.specs.Headers.{Header}
use Rattle.odb_doc.specs.Statuses.{is_success}
use Rattle.odb_reply.specs.ResponseDocuments.{responses_in}
use Rattle.odb_send.specs.declared.answers.Recorded.{Recorded}

-- what is recorded of the answer to a request
pub record Answer : Type 0 where
  pub location : Option (List ℕ)
  pub etag : Option (List ℕ)

-- of a request that has not succeeded, or that the batch does not have
abbrev pub nothing : Answer
nothing = record { location = None; etag = None }

-- the header is written with this name, in any case of its letters (RFC 9110, section 5.1)
abbrev pub is_named : List ℕ → List ℕ → Bool
is_named name written = bytes_eq (str_to_ascii_lowercase name) (str_to_ascii_lowercase written)

-- the first value of a header with the name
abbrev pub value_among : List ℕ → Members → Option Data
value_among name no_members = None
value_among name (member written d ms) = if is_named name written then Some d else value_among name ms

-- the value of the header among those of a response, if it is a string
abbrev pub value_of : List ℕ → Data → Option (List ℕ)
value_of name d = option_and_then as_str (option_and_then (value_among name) (option_and_then as_object (get (codes "headers") d)))

-- the same in the response at a place of a response document. Places past its end have none.
abbrev pub value_at : List ℕ → Data → Option ℕ → Option (List ℕ)
value_at name d place = option_and_then (value_of name) (option_and_then (slice_get (responses_in d)) place)

abbrev pub response_answer : Data → Option ℕ → Answer
response_answer d place = record { location = value_at (codes "location") d place; etag = value_at (codes "etag") d place }

-- what the response to the request at a position records, by the places and the statuses of the responses
abbrev pub recorded : Data → (places statuses : List ℕ) → ℕ → Answer
recorded d places statuses i = if is_success (slice_index statuses i) then response_answer d (slice_get places i) else nothing

-- the value of the header among headers, of which each name is a text of its own
abbrev pub value_in : List ℕ → List Header → Option (List ℕ)
value_in name [] = None
value_in name (header ∷ headers) = if is_named name header.0 then Some header.1 else value_in name headers

-- what these headers record
abbrev pub headers_answer : List Header → Answer
headers_answer headers = record { location = value_in (codes "location") headers; etag = value_in (codes "etag") headers }

-- ---- in memory

abbrev pub text_of : Option (Bor (List ℕ)) → Option (List ℕ)
text_of found = option_map (λ text. text.now) found

abbrev pub answer_of : Recorded → Answer
answer_of recorded = record { location = text_of recorded.location; etag = text_of recorded.etag }

abbrev pub answers_in : List Recorded → ℕ → Answer
answers_in found i = slice_index_or (map answer_of found) i nothing
