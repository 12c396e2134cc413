-- The text of the responses, response by response.
use Rattle.std.proofs.Common.{sym, ◌≡◌, ◌∙◌, ℕ, ◌+◌, ◌≤◌, List, [], ◌∷◌, ◌++◌, length, Option, Some, nat_lt, refl, ap, codes, arith, append_assoc, lt-ltb}
use Rattle.std.proofs.lemmas.List.{drop_all}
use Rattle.std.specs.Prelude.{slice_get}
use Rattle.serde_json.specs.View.{items_of}
use Rattle.serde_json.specs.Written.{comma_if, compact_text, items_text}
use Rattle.serde_json.proofs.OnLiterals.{serde_json_on_literals}
use Rattle.odb_doc.specs.declared.recorded.outcome.Outcome.{Outcome}
use Rattle.odb_reply.specs.BodyTexts.{HasNoText, response_with, responses_with, text_at, text_with}
use Rattle.odb_reply.specs.Responses.{LabelValue, response, responses_from, text_of}
use Rattle.odb_reply.specs.Parts.{rest_text}
use Rattle.odb_reply.proofs.PartLemmas.{response-untexted}
use Rattle.odb_doc.proofs.ElementLemmas.{drop_at}

-- the whole text is its start, and then the responses
pub text_with-prefix : (labels : List LabelValue) (texts : List (Option (List ℕ))) (answers : ℕ → Option Outcome) → text_with labels texts answers ≡ codes "{\"responses\":[" ++ rest_text labels texts answers 0
unfolding text_with rest_text serde_json_on_literals
text_with-prefix labels texts answers = refl

-- after the last response comes the end
pub rest_text-none : (labels : List LabelValue) (texts : List (Option (List ℕ))) (answers : ℕ → Option Outcome) (i : ℕ) → length labels ≤ i → rest_text labels texts answers i ≡ codes "]}"
unfolding rest_text
rest_text-none labels texts answers i end = rw (drop_all i labels end) refl

-- with the end, the buffer is the whole rest
pub rest_text-last : (labels : List LabelValue) (texts : List (Option (List ℕ))) (answers : ℕ → Option Outcome) (i : ℕ) (buffer ended : List ℕ) → length labels ≤ i → ended ≡ buffer ++ codes "]}"
    → buffer ++ rest_text labels texts answers i ≡ ended
rest_text-last labels texts answers i buffer ended end is = ap (λ text. buffer ++ text) (rest_text-none labels texts answers i end) ∙ sym is

-- the response to a request, with the comma before it, and then the rest
pub rest_text-more : (labels : List LabelValue) (texts : List (Option (List ℕ))) (answers : ℕ → Option Outcome) (i : ℕ) (label : LabelValue) → slice_get labels i ≡ Some label
    → rest_text labels texts answers i ≡ (comma_if (nat_lt 0 i) ++ response_with label (answers i) (text_at texts i)) ++ rest_text labels texts answers (i + 1)
unfolding rest_text
rest_text-more labels texts answers i label is = rw (drop_at labels i label is) (simp append_assoc)

-- ---- without texts

untexted-from : (texts : List (Option (List ℕ))) (answers : ℕ → Option Outcome) → HasNoText texts → (i : ℕ) (labels : List LabelValue)
    → responses_with texts answers i labels ≡ items_text (nat_lt 0 i) (items_of (responses_from answers i labels))
unfolding serde_json_on_literals
untexted-from texts answers none i [] = refl
untexted-from texts answers none i (label ∷ labels) =
    let comma = comma_if (nat_lt 0 i) in
    let rest = items_of (responses_from answers (i + 1) labels) in
    ap (λ text. comma ++ (response_with label (answers i) text ++ responses_with texts answers (i + 1) labels)) (none i)
    ∙ ap (λ bs. comma ++ (bs ++ responses_with texts answers (i + 1) labels)) (response-untexted label (answers i))
    ∙ ap (λ bs. comma ++ (compact_text (response label (answers i)) ++ bs)) (untexted-from texts answers none (i + 1) labels ∙ ap (λ later. items_text later rest) (lt-ltb 0 (i + 1) (omega arith)))

-- the text is that of the value
pub text_with-none : (labels : List LabelValue) (texts : List (Option (List ℕ))) (answers : ℕ → Option Outcome) → HasNoText texts → text_with labels texts answers ≡ text_of labels answers
unfolding text_with text_of serde_json_on_literals
text_with-none labels texts answers none = ap (λ text. codes "{\"responses\":[" ++ (text ++ codes "}")) (untexted-from texts answers none 0 labels)

-- with the start, the buffer and all responses are the whole text
pub text_of-begun : (labels : List LabelValue) (answers : ℕ → Option Outcome) (buffer : List ℕ) → buffer ≡ codes "{\"responses\":[" → buffer ++ rest_text labels [] answers 0 ≡ text_of labels answers
text_of-begun labels answers buffer is = ap (λ text. text ++ rest_text labels [] answers 0) is ∙ sym (text_with-prefix labels [] answers) ∙ text_with-none labels [] answers (λ i. refl)
