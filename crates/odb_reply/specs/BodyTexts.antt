-- Bodies that were reported as JSON text, which a response repeats byte for byte (OData JSON Format 4.01, section 19.5).
use Rattle.std.specs.Prelude.{◌≡◌, ◌≢◌, ◌+◌, ◌++◌, ℕ, List, [], ◌∷◌, Option, Some, None, option_map, option_and_then, slice_get, nat_lt, decimal, codes}
use Rattle.serde_json.specs.Data.{Data, null, string}
use Rattle.serde_json.specs.Read.{read}
use Rattle.serde_json.specs.Written.{compact_text, comma_if}
use Rattle.odb_doc.specs.canonical.Canonical.{headers_value}
use Rattle.odb_doc.specs.declared.recorded.outcome.Outcome.{Outcome}
use Rattle.odb_doc.specs.Documents.{IsDocument}
use Rattle.odb_doc.specs.Nesting.{NestsWithin}
use Rattle.odb_doc.specs.Texts.{member_part}
use Rattle.odb_sched.specs.run.Answers.{status_of}
use Rattle.odb_reply.specs.Responses.{LabelValue, answer_body, answer_headers, value_of}

-- what the bytes of a reported body are: none if they are the JSON null, else their own text
pub data IsBody (bytes : List ℕ) : Option (List ℕ) → Type 0 where
  NoBody : IsDocument bytes null → IsBody bytes None
  Text : (d : Data) → IsDocument bytes d → d ≢ null → NestsWithin 124 bytes → IsBody bytes (Some bytes)

-- the bytes are not JSON, or they nest more than 124 deep
abbrev pub IsNoBody : List ℕ → Type 0
IsNoBody bytes = (d : Data) → IsDocument bytes d → ¬ NestsWithin 124 bytes

-- the text of the body of the request at a position, if it was reported as one. Positions past the end have none.
abbrev pub text_at : List (Option (List ℕ)) → ℕ → Option (List ℕ)
text_at texts i = option_and_then (λ text. text) (slice_get texts i)

-- no body was reported as text
abbrev pub HasNoText : List (Option (List ℕ)) → Type 0
HasNoText texts = (i : ℕ) → text_at texts i ≡ None

-- the body of an answer, if it is a value: none that was reported as text
abbrev pub value_body : Option Outcome → Option (List ℕ) → Option Data
value_body answer None = answer_body answer
value_body answer (Some text) = None

-- the member `body` of an answer, and the comma after it: the text that was reported, or else that of the value
abbrev pub body_part : Option Outcome → Option (List ℕ) → List ℕ
body_part None text = []
body_part (Some outcome) None = member_part (codes "\"body\":") outcome.body
body_part (Some outcome) (Some text) = codes "\"body\":" ++ (text ++ codes ",")

-- the last two members of a response, and the end of the object
abbrev pub end_part : List ℕ → ℕ → List ℕ
end_part id status = codes "\"id\":" ++ (compact_text (string id) ++ (codes ",\"status\":" ++ (decimal status ++ codes "}")))

-- the response to a request with this id and group, and with this answer, whose body may have been reported as text
abbrev pub response_with : LabelValue → Option Outcome → Option (List ℕ) → List ℕ
response_with label answer text =
    codes "{" ++ (member_part (codes "\"atomicityGroup\":") (option_map string label.group) ++ (body_part answer text ++ (member_part (codes "\"headers\":") (headers_value (answer_headers answer)) ++ end_part label.id (status_of answer))))

-- the responses to these requests, of which the first is at position i, and the end of the array
abbrev pub responses_with : List (Option (List ℕ)) → (ℕ → Option Outcome) → ℕ → List LabelValue → List ℕ
responses_with texts answers i [] = codes "]"
responses_with texts answers i (label ∷ labels) = comma_if (nat_lt 0 i) ++ (response_with label (answers i) (text_at texts i) ++ responses_with texts answers (i + 1) labels)

-- the text of the response: that of the value, with each text that was reported in the place of its body
unfoldable pub text_with : List LabelValue → List (Option (List ℕ)) → (ℕ → Option Outcome) → List ℕ
text_with labels texts answers = codes "{\"responses\":[" ++ (responses_with texts answers 0 labels ++ codes "}")

-- the answer with this value as its body, if it has one: a failed dependency has none
abbrev pub with_body : Option Outcome → Option Data → Option Outcome
with_body None body = None
with_body (Some outcome) body = Some (record outcome { body = body })

-- the answer with the value of the text that was reported as its body
abbrev pub valued : Option Outcome → Option (List ℕ) → Option Outcome
valued answer None = answer
valued answer (Some text) = with_body answer (read text)

-- the answers with the values of the texts that were reported
abbrev pub values_of : List (Option (List ℕ)) → (ℕ → Option Outcome) → ℕ → Option Outcome
values_of texts answers i = valued (answers i) (text_at texts i)

-- the value of the response: each text stands for the value that it is read as
abbrev pub value_with : List LabelValue → List (Option (List ℕ)) → (ℕ → Option Outcome) → Data
value_with labels texts answers = value_of labels (values_of texts answers)
