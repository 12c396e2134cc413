-- The text of a response is read again as the response.
use Rattle.std.proofs.Common.{◌≡◌, ℕ, suc, ◌+◌, ◌<◌, List, [], ◌∷◌, length, Option, Some, None, option_map, IfSome, nat_le, nat_lt, ltb-true, true, codes, refl, sym, subst, arith, inl, inr}
use Rattle.std.proofs.lemmas.Bool.{and_parts, cases_eq, or_from}
use Rattle.serde_json.specs.Data.{Data, unsigned, number, string, array, no_members}
use Rattle.serde_json.specs.View.{items_of}
use Rattle.serde_json.specs.Written.{members_have_float}
use Rattle.odb_doc.specs.declared.recorded.outcome.Outcome.{Outcome}
use Rattle.odb_doc.specs.canonical.Canonical.{headers_value}
use Rattle.odb_doc.specs.WholeNumbers.{IsWhole}
use Rattle.odb_doc.proofs.SafeLemmas.{IsSafe, AreSafe, AreItemsSafe, safe-put, safe-string, safe-none, safe-with_some, safe-group, safe-headers, safe-body}
use Rattle.odb_sched.specs.run.Answers.{answer, status_of}
use Rattle.odb_sched.specs.run.State.{State, size}
use Rattle.odb_doc.specs.Statuses.{is_status}
use Rattle.odb_reply.specs.NotWhole.{HasWholeBodies}
use Rattle.odb_doc.specs.recorded.OutcomeValues.{IsHeldOutcome, IsShallow}
use Rattle.odb_reply.specs.Readable.{AnswersBy, HasShallowBodies, IsReadable}
use Rattle.odb_reply.specs.Responses.{LabelValue, answer_body, answer_headers, response_members, responses_from, value_of}

pub safe-status : (n status : ℕ) → is_status status ≡ true → IsSafe n (number (unsigned status))
safe-status n status good =
    let below : status < 600 = ltb-true status 600 (and_parts (nat_le 200 status) (nat_lt status 600) good).1 in
    record { held = omega arith; whole = refl; shallow = omega arith }

safe-answer_body : (answered : Option Outcome) → IfSome answered IsReadable → IfSome (answer_body answered) (IsSafe 124)
safe-answer_body None readable = tt
safe-answer_body (Some outcome) readable = safe-body 124 outcome.body readable.held.body readable.whole readable.shallow

safe-answer_headers : (answered : Option Outcome) → IfSome answered IsReadable → IfSome (headers_value (answer_headers answered)) (IsSafe 124)
safe-answer_headers None readable = tt
safe-answer_headers (Some outcome) readable = safe-headers 124 outcome.headers (omega arith) readable.held.headers

safe-response : (label : LabelValue) (answered : Option Outcome) → IfSome answered IsReadable → is_status (status_of answered) ≡ true → AreSafe 124 (response_members label answered)
safe-response label answered readable status =
    safe-with_some 124 (codes "atomicityGroup") (option_map string label.group) _ (safe-group 124 label.group) (
    safe-with_some 124 (codes "body") (answer_body answered) _ (safe-answer_body answered readable) (
    safe-with_some 124 (codes "headers") (headers_value (answer_headers answered)) _ (safe-answer_headers answered readable) (
    safe-put 124 (codes "id") (string label.id) _ (safe-string 124 label.id) (
    safe-put 124 (codes "status") (number (unsigned (status_of answered))) no_members (safe-status 124 (status_of answered) status) (safe-none 124)))))

-- the answer at each of these positions is read again, and has such a status
abbrev AreAnswered : (ℕ → Option Outcome) → ℕ → ℕ → Type 0
AreAnswered answers i count = (k : ℕ) → k < count → IfSome (answers (i + k)) IsReadable × (is_status (status_of (answers (i + k))) ≡ true)

safe-responses : (answers : ℕ → Option Outcome) (i : ℕ) (labels : List LabelValue) → AreAnswered answers i (length labels) → AreItemsSafe 125 (items_of (responses_from answers i labels))
safe-responses answers i [] each = record { held = tt; whole = refl; shallow = omega arith }
safe-responses answers i (label ∷ labels) each =
    let here : i + 0 ≡ i = omega arith in
    let (readable, status) = subst (λ (j : ℕ). IfSome (answers j) IsReadable × (is_status (status_of (answers j)) ≡ true)) here (each 0 (omega arith)) in
    let first = safe-response label (answers i) readable status in
    let rest = safe-responses answers (i + 1) labels (λ k within.
    let next : i + suc k ≡ i + 1 + k = omega arith in
    subst (λ (j : ℕ). IfSome (answers j) IsReadable × (is_status (status_of (answers j)) ≡ true)) next (each (suc k) (omega (arith, within)))) in
    record {
      held = ((first.ordered, first.held), rest.held);
      whole = or_from (members_have_float (response_members label (answers i))) _ first.whole rest.whole;
      shallow = omega (arith, first.shallow, rest.shallow);
    }

by_answer : (found answered : Option Outcome) → found ≡ answered → ((outcome : Outcome) → found ≡ Some outcome → IsReadable outcome) → IfSome answered IsReadable
by_answer found None is each = tt
by_answer found (Some outcome) is each = each outcome is

-- the response is a value that is written without loss
pub safe-value : (labels : List LabelValue) (state : State) → size state ≡ length labels → ((i : ℕ) → is_status (status_of (answer state i)) ≡ true) → AnswersBy IsReadable state → IsSafe 127 (value_of labels (answer state))
safe-value labels state count statuses readable =
    let items = safe-responses (answer state) 0 labels (λ k within.
    (by_answer (answer state (0 + k)) (answer state (0 + k)) refl (λ outcome is. readable (0 + k) outcome (omega (arith, within, count)) is), statuses (0 + k))) in
    let all : IsSafe 126 (array (items_of (responses_from (answer state) 0 labels))) = record { held = items.held; whole = items.whole; shallow = omega (arith, items.shallow) } in
    let whole = safe-put 126 (codes "responses") _ no_members all (safe-none 126) in
    record { held = (whole.ordered, whole.held); whole = whole.whole; shallow = omega (arith, whole.shallow) }

-- what holds below a number and there holds below the next one
pub below_more : (P : ℕ → Type 0) (i : ℕ) → ((k : ℕ) → k < i → P k) → P i → (k : ℕ) → k < i + 1 → P k
below_more P i before here k less = elim (cases_eq k i) [
  | inl same ↦ subst P (sym same) here
  | inr apart ↦ before k (omega (arith, less, apart))
]

body-of : (state : State) (P : Option Data → Type 0) (i : ℕ) (outcome : Outcome) → answer state i ≡ Some outcome → P (answer_body (answer state i)) → P outcome.body
body-of state P i outcome is holds = subst (λ answered. P (answer_body answered)) is holds

abbrev AreWhole : Option Data → Type 0
AreWhole body = IfSome body IsWhole

-- answers that memory holds are read again if their bodies have whole numbers and nest at most 124 deep
pub readable-from : (state : State) → AnswersBy IsHeldOutcome state → HasWholeBodies state → HasShallowBodies state → AnswersBy IsReadable state
readable-from state held whole shallow i outcome within is = record {
  held = held i outcome within is;
  whole = body-of state AreWhole i outcome is (whole i within);
  shallow = body-of state IsShallow i outcome is (shallow i within);
}
