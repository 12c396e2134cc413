-- The response to a batch whose run has finished (OData JSON Format 4.01, section 19.5).
use Rattle.std.specs.Prelude.{ℕ, ◌+◌, List, [], ◌∷◌, map, Option, Some, None, option_map, codes}
use Rattle.serde_json.specs.Data.{Data, unsigned, number, string, array, object, Members, no_members, put}
use Rattle.serde_json.specs.View.{items_of}
use Rattle.serde_json.specs.Written.{compact_text}
use Rattle.odb_doc.specs.canonical.Canonical.{headers_value, with_some}
use Rattle.odb_doc.specs.Headers.{Header}
use Rattle.odb_doc.specs.batch.Records.{Record}
use Rattle.odb_doc.specs.declared.recorded.outcome.Outcome.{Outcome}
use Rattle.odb_sched.specs.run.Answers.{answer, status_of}
use Rattle.odb_sched.specs.run.State.{State}

-- the headers of an answer. A failed dependency has none
abbrev pub answer_headers : Option Outcome → List Header
answer_headers None = []
answer_headers (Some outcome) = outcome.headers

-- the body of an answer, if any. A failed dependency has none
abbrev pub answer_body : Option Outcome → Option Data
answer_body None = None
answer_body (Some outcome) = outcome.body

-- what a response repeats of its request
pub record LabelValue : Type 0 where
  pub id : List ℕ
  pub group : Option (List ℕ)

abbrev pub label_of : Record → LabelValue
label_of request = record { id = request.id; group = request.group }

-- the ids and groups of requests, in their order
abbrev pub labels_of : List Record → List LabelValue
labels_of requests = map label_of requests

-- the members of the response to a request with this id and group, and with this answer
abbrev pub response_members : LabelValue → Option Outcome → Members
response_members label answer =
    with_some (codes "atomicityGroup") (option_map string label.group) (
    with_some (codes "body") (answer_body answer) (
    with_some (codes "headers") (headers_value (answer_headers answer)) (
    put (codes "id") (string label.id) (
    put (codes "status") (number (unsigned (status_of answer))) no_members))))

abbrev pub response : LabelValue → Option Outcome → Data
response label answer = object (response_members label answer)

-- the responses to these requests, of which the first is at position i
abbrev pub responses_from : (ℕ → Option Outcome) → ℕ → List LabelValue → List Data
responses_from answers i [] = []
responses_from answers i (label ∷ labels) = response label (answers i) ∷ responses_from answers (i + 1) labels

-- The response to a batch by what it depends on: the ids and groups of the requests, and their answers, in the order of
-- the requests.
abbrev pub value_of : List LabelValue → (ℕ → Option Outcome) → Data
value_of labels answers = object (put (codes "responses") (array (items_of (responses_from answers 0 labels))) no_members)

-- its text, if each number in it is whole
unfoldable pub text_of : List LabelValue → (ℕ → Option Outcome) → List ℕ
text_of labels answers = compact_text (value_of labels answers)

-- the response to the batch of a run, and its text
abbrev pub response_value : State → Data
response_value state = value_of (labels_of state.requests) (answer state)

abbrev pub response_text : State → List ℕ
response_text state = text_of (labels_of state.requests) (answer state)
