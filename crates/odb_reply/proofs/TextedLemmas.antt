-- The text of a response with bodies that were reported as text is read as the value of the response.
use Rattle.std.proofs.Common.{◌≡◌, ◌∙◌, ℕ, suc, ◌+◌, ◌<◌, ◌≤◌, List, [], ◌∷◌, ◌++◌, length, true, nat_lt, Option, Some, None, option_map, IfSome, codes, decimal, refl, sym, ap, subst, arith, append-nil, lt-ltb}
use Rattle.json.specs.Json as json
use Rattle.json.specs.Lex.{between, lex, punctuate}
use Rattle.json.specs.Tree as tree
use Rattle.serde_json.proofs.OnLiterals.{serde_json_on_literals}
use Rattle.serde_json.specs.Data.{Data, unsigned, number, string, object, no_members, put}
use Rattle.serde_json.specs.Read.{of_json, of_members, read}
use Rattle.serde_json.specs.View.{items_of}
use Rattle.serde_json.specs.Written.{compact_text}
use Rattle.odb_doc.proofs.SafeLemmas.{IsSafe, safe-group, safe-headers, safe-body, safe-string}
use Rattle.odb_doc.specs.Texts.{member_part}
use Rattle.odb_doc.specs.canonical.Canonical.{headers_value, with_some}
use Rattle.odb_doc.specs.declared.recorded.outcome.Outcome.{Outcome}
use Rattle.odb_doc.specs.recorded.OutcomeValues.{IsShallow}
use Rattle.odb_doc.specs.Statuses.{is_status}
use Rattle.odb_doc.specs.WholeNumbers.{IsWhole}
use Rattle.odb_sched.specs.run.Answers.{answer, status_of}
use Rattle.odb_sched.specs.run.State.{State, size}
use Rattle.odb_reply.specs.BodyTexts.{IsBody, body_part, end_part, response_with, responses_with, text_at, text_with, valued, value_body, value_with, values_of}
use Rattle.odb_reply.specs.BodyTexts.IsBody.{NoBody, Text}
use Rattle.odb_reply.specs.NotWhole.{HasWholeValues}
use Rattle.odb_reply.specs.Parts.{AreHeldBy, IsHeldBy}
use Rattle.odb_reply.specs.Readable.{HasShallowValues}
use Rattle.odb_reply.specs.Responses.{LabelValue, answer_body, answer_headers, response, responses_from}
use Rattle.odb_reply.proofs.ReadableLemmas.{safe-status}
use Rattle.odb_reply.proofs.SpliceLemmas.{AreObjectTexts, BeginsArray, EndsObject, IsObjectText, IsPart, IsPiece, Tree, body-name, document-read, group-name, headers-name, id-name, last-member, member-before, member-then, no-objects, no-part, object-text, one-object-more, piece-text, piece-value, some-part, status-name, value-part, with-tree-depth, with_tree}

-- ---- one response

abbrev group_text : LabelValue → List ℕ
group_text label = member_part (codes "\"atomicityGroup\":") (option_map string label.group)

abbrev headers_text : Option Outcome → List ℕ
headers_text answered = member_part (codes "\"headers\":") (headers_value (answer_headers answered))

-- what is known of an answer and of the text of its body
pub record IsAnswer (answered : Option Outcome) (text : Option (List ℕ)) : Type 0 where
  pub held : IfSome answered (λ outcome. IsHeldBy outcome text)
  pub whole : IfSome (value_body answered text) IsWhole
  pub shallow : IsShallow (value_body answered text)
  pub status : is_status (status_of answered) ≡ true

text-part : (outcome : Outcome) (text : List ℕ) (found : Option (List ℕ)) → IsBody text found → found ≡ Some text → IsPart (body_part (Some outcome) (Some text)) (codes "body") (read text)
text-part outcome text _ (Text d document some nests) same = subst (IsPart (body_part (Some outcome) (Some text)) (codes "body")) (sym document.1.1) (some-part (codes "\"body\":") (codes "body") text d body-name (piece-text text d document.1.1 nests))
text-part outcome text _ (NoBody document) same = absurd (cc (same))

of-body : (answered : Option Outcome) (text : Option (List ℕ)) → IsAnswer answered text → IsPart (body_part answered text) (codes "body") (answer_body (valued answered text))
of-body None None is = no-part (codes "body")
of-body None (Some text) is = no-part (codes "body")
of-body (Some outcome) None is = value-part (codes "\"body\":") (codes "body") body-name outcome.body (safe-body 124 outcome.body is.held.body is.whole is.shallow)
of-body (Some outcome) (Some text) is = text-part outcome text (Some text) is.held.1 refl

safe-answer_headers : (answered : Option Outcome) (text : Option (List ℕ)) → IfSome answered (λ outcome. IsHeldBy outcome text) → IfSome (headers_value (answer_headers answered)) (IsSafe 124)
safe-answer_headers None text held = tt
safe-answer_headers (Some outcome) None held = safe-headers 124 outcome.headers (omega arith) held.headers
safe-answer_headers (Some outcome) (Some text) held = safe-headers 124 outcome.headers (omega arith) held.0

-- the headers and the status are those of the answer
same-response : (label : LabelValue) (answered : Option Outcome) (text : Option (List ℕ))
    → object (with_some (codes "atomicityGroup") (option_map string label.group) (with_some (codes "body") (answer_body (valued answered text)) (with_some (codes "headers") (headers_value (answer_headers answered)) (put (codes "id") (string label.id) (put (codes "status") (number (unsigned (status_of answered))) no_members)))))
    ≡ response label (valued answered text)
same-response label None None = refl
same-response label None (Some text) = refl
same-response label (Some outcome) None = refl
same-response label (Some outcome) (Some text) = refl

-- what is read of the members of a response
members-read : (group body headers : Option Data) (first : Tree group) (second : Tree body) (third : Tree headers) (id status : Data) (fourth fifth : json.Json) → of_json fourth ≡ Some id → of_json fifth ≡ Some status
    → of_members (with_tree (codes "atomicityGroup") group first (with_tree (codes "body") body second (with_tree (codes "headers") headers third (json.member (codes "id") fourth (json.member (codes "status") fifth json.no_members))))) no_members
    ≡ Some (with_some (codes "atomicityGroup") group (with_some (codes "body") body (with_some (codes "headers") headers (put (codes "id") id (put (codes "status") status no_members)))))
unfolding serde_json_on_literals
members-read None None None first second third id status fourth fifth is also = rw (is, also) refl
members-read None None (Some h) first second third id status fourth fifth is also = rw (third.1, is, also) refl
members-read None (Some b) None first second third id status fourth fifth is also = rw (second.1, is, also) refl
members-read None (Some b) (Some h) first second third id status fourth fifth is also = rw (second.1, third.1, is, also) refl
members-read (Some g) None None first second third id status fourth fifth is also = rw (first.1, is, also) refl
members-read (Some g) None (Some h) first second third id status fourth fifth is also = rw (first.1, third.1, is, also) refl
members-read (Some g) (Some b) None first second third id status fourth fifth is also = rw (first.1, second.1, is, also) refl
members-read (Some g) (Some b) (Some h) first second third id status fourth fifth is also = rw (first.1, second.1, third.1, is, also) refl

-- the last two members
last_members : (id : List ℕ) (status : ℕ) (first : IsPiece (compact_text (string id)) (string id)) (second : IsPiece (decimal status) (number (unsigned status)))
    → EndsObject (end_part id status) (json.member (codes "id") first.parsed (json.member (codes "status") second.parsed json.no_members))
unfolding serde_json_on_literals
last_members id status first second =
    member-then (codes "\"id\":") (codes "id") (compact_text (string id)) (string id) id-name first (codes "\"status\":" ++ (decimal status ++ 125 ∷ [])) (json.member (codes "status") second.parsed json.no_members)
    (last-member (codes "\"status\":") (codes "status") (decimal status) (number (unsigned status)) status-name second)

of-response : (label : LabelValue) (answered : Option Outcome) (text : Option (List ℕ)) → IsAnswer answered text → IsObjectText (response_with label answered text) (response label (valued answered text))
unfolding serde_json_on_literals
of-response label answered text is =
    let status = status_of answered in
    let headers = headers_value (answer_headers answered) in
    let first : IsPiece (compact_text (string label.id)) (string label.id) = piece-value (string label.id) (safe-string 124 label.id) in
    let second : IsPiece (decimal status) (number (unsigned status)) = piece-value (number (unsigned status)) (safe-status 124 status is.status) in
    let last = json.member (codes "id") first.parsed (json.member (codes "status") second.parsed json.no_members) in
    let of_group = value-part (codes "\"atomicityGroup\":") (codes "atomicityGroup") group-name (option_map string label.group) (safe-group 124 label.group) in
    let of_text = of-body answered text is in
    let of_headers = value-part (codes "\"headers\":") (codes "headers") headers-name headers (safe-answer_headers answered text is.held) in
    let headed = with_tree (codes "headers") headers of_headers.parsed last in
    let bodied = with_tree (codes "body") (answer_body (valued answered text)) of_text.parsed headed in
    let grouped = with_tree (codes "atomicityGroup") (option_map string label.group) of_group.parsed bodied in
    let after_body = headers_text answered ++ end_part label.id status in
    let whole = group_text label ++ (body_part answered text ++ after_body) in
    let ends : EndsObject whole grouped =
    member-before (group_text label) (codes "atomicityGroup") (option_map string label.group) of_group (body_part answered text ++ after_body) bodied
    (member-before (body_part answered text) (codes "body") (answer_body (valued answered text)) of_text after_body headed
    (member-before (headers_text answered) (codes "headers") headers of_headers (end_part label.id status) last (last_members label.id status first second))) in
    let shallow : tree.members_depth grouped ≤ 124 =
    with-tree-depth (codes "atomicityGroup") (option_map string label.group) of_group.parsed bodied
    (with-tree-depth (codes "body") (answer_body (valued answered text)) of_text.parsed headed
    (with-tree-depth (codes "headers") headers of_headers.parsed last (omega (arith, first.shallow, second.shallow)))) in
    subst (IsObjectText (response_with label answered text)) (same-response label answered text)
    (object-text whole grouped _ ends (members-read (option_map string label.group) (answer_body (valued answered text)) headers of_group.parsed of_text.parsed of_headers.parsed (string label.id) (number (unsigned status)) first.parsed second.parsed first.reads second.reads) shallow)

-- ---- the responses

-- what is known of so many answers, of which the first is at position i
abbrev AreAnswers : List (Option (List ℕ)) → (ℕ → Option Outcome) → ℕ → ℕ → Type 0
AreAnswers texts answers i count = (k : ℕ) → k < count → IsAnswer (answers (i + k)) (text_at texts (i + k))

are-responses : (labels : List LabelValue) (texts : List (Option (List ℕ))) (answers : ℕ → Option Outcome) (i : ℕ) → AreAnswers texts answers i (length labels)
    → AreObjectTexts (nat_lt 0 i) (responses_with texts answers i labels) (items_of (responses_from (values_of texts answers) i labels))
are-responses [] texts answers i each = no-objects (nat_lt 0 i)
are-responses (label ∷ labels) texts answers i each =
    let here : i + 0 ≡ i = omega arith in
    let is = subst (λ j. IsAnswer (answers j) (text_at texts j)) here (each 0 (omega arith)) in
    let others = are-responses labels texts answers (i + 1) (λ k within.
    let next : i + suc k ≡ i + 1 + k = omega arith in
    subst (λ j. IsAnswer (answers j) (text_at texts j)) next (each (suc k) (omega (arith, within)))) in
    let ds = items_of (responses_from (values_of texts answers) (i + 1) labels) in
    one-object-more (nat_lt 0 i) (response_with label (answers i) (text_at texts i)) (responses_with texts answers (i + 1) labels) (response label (values_of texts answers i)) ds (of-response label (answers i) (text_at texts i) is)
    (subst (λ later. AreObjectTexts later (responses_with texts answers (i + 1) labels) ds) (lt-ltb 0 (i + 1) (omega arith)) others)

-- ---- the whole text

begun : BeginsArray (codes "{\"responses\":[") (codes "responses")
unfolding lex punctuate serde_json_on_literals
begun rest = refl

-- the text, and after it maybe blanks, is read as the value
pub texted-read : (labels : List LabelValue) (texts : List (Option (List ℕ))) (answers : ℕ → Option Outcome) (tail : List ℕ) → lex between tail ≡ [] → AreAnswers texts answers 0 (length labels)
    → read (text_with labels texts answers ++ tail) ≡ Some (value_with labels texts answers)
unfolding text_with
texted-read labels texts answers tail none each = document-read (codes "{\"responses\":[") (codes "responses") (responses_with texts answers 0 labels) tail _ begun none (are-responses labels texts answers 0 each)

if-some : (P : Outcome → Type 0) (found answered : Option Outcome) → found ≡ answered → ((outcome : Outcome) → found ≡ Some outcome → P outcome) → IfSome answered P
if-some P found None is each = tt
if-some P found (Some outcome) is each = each outcome is

-- ---- the response to a run

module _ (labels : List LabelValue) (texts : List (Option (List ℕ))) (state : State) (count : size state ≡ length labels) (statuses : (i : ℕ) → is_status (status_of (answer state i)) ≡ true) (held : AreHeldBy texts state)
    (whole : HasWholeValues texts state) (shallow : HasShallowValues texts state) where
  are-answers : AreAnswers texts (answer state) 0 (length labels)
  are-answers k within =
      let inside : 0 + k < size state = omega (arith, within, count) in
      record {
        held = if-some (λ outcome. IsHeldBy outcome (text_at texts (0 + k))) (answer state (0 + k)) (answer state (0 + k)) refl (λ outcome is. held (0 + k) outcome inside is);
        whole = whole (0 + k) inside;
        shallow = shallow (0 + k) inside;
        status = statuses (0 + k);
      }

  pub texted-back : read (text_with labels texts (answer state)) ≡ Some (value_with labels texts (answer state))
  unfolding lex
  texted-back = ap read (sym (append-nil (text_with labels texts (answer state)))) ∙ texted-read labels texts (answer state) [] refl are-answers

  -- also with a newline at its end
  pub texted-line : read (text_with labels texts (answer state) ++ codes "\n") ≡ Some (value_with labels texts (answer state))
  unfolding lex serde_json_on_literals
  texted-line = texted-read labels texts (answer state) (10 ∷ []) refl are-answers
