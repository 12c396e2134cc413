-- For invariants and private clauses: the text of a response by its parts.
use Rattle.std.specs.Prelude.{◌≡◌, ◌<◌, ◌++◌, ℕ, Bool, List, Option, Some, None, is_some, drop, codes}
use Rattle.serde_json.specs.Data.{Data}
use Rattle.serde_json.specs.Find.{as_null}
use Rattle.serde_json.specs.Read.{read}
use Rattle.odb_doc.specs.declared.recorded.outcome.Outcome.{Outcome}
use Rattle.odb_doc.specs.Headers.{IsInOrder}
use Rattle.odb_doc.specs.recorded.OutcomeValues.{IsHeldOutcome}
use Rattle.odb_sched.specs.run.Answers.{answer}
use Rattle.odb_sched.specs.run.State.{State, size}
use Rattle.odb_doc.specs.Nesting.{NestsWithin}
use Rattle.odb_reply.specs.BodyTexts.{IsBody, responses_with, text_at}
use Rattle.odb_reply.specs.Responses.{LabelValue}

-- the text is JSON that nests at most 124 deep, and by this it is null or not
pub record IsValue (text : List ℕ) (is_null : Bool) : Type 0 where
  pub value : Data
  pub reads : read text ≡ Some value
  pub shallow : NestsWithin 124 text
  pub null : is_null ≡ is_some (as_null value)

-- the text is not JSON, or it nests more than 124 deep
abbrev pub IsNoValue : List ℕ → Type 0
IsNoValue text = (d : Data) → read text ≡ Some d → ¬ NestsWithin 124 text

-- The outcome is read again from the text of its response: memory holds it, and its body if that is a value; a text of its
-- body is one.
abbrev pub IsHeldBy : Outcome → Option (List ℕ) → Type 0
IsHeldBy outcome None = IsHeldOutcome outcome
IsHeldBy outcome (Some text) = IsInOrder outcome.headers × IsBody text (Some text)

-- the same of each outcome that answers a request
abbrev pub AreHeldBy : List (Option (List ℕ)) → State → Type 0
AreHeldBy texts state = (i : ℕ) (outcome : Outcome) → i < size state → answer state i ≡ Some outcome → IsHeldBy outcome (text_at texts i)

-- the text of the responses from a position on, to the end
unfoldable pub rest_text : List LabelValue → List (Option (List ℕ)) → (ℕ → Option Outcome) → ℕ → List ℕ
rest_text labels texts answers i = responses_with texts answers i (drop i labels) ++ codes "}"
