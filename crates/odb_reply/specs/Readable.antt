-- Answers that are read again from the text of their response (OData JSON Format 4.01, section 19.5).
use Rattle.std.specs.Prelude.{◌≡◌, ◌<◌, ℕ, List, Option, Some, IfSome}
use Rattle.odb_doc.specs.declared.recorded.outcome.Outcome.{Outcome}
use Rattle.odb_doc.specs.recorded.OutcomeValues.{IsHeldOutcome, IsShallow}
use Rattle.odb_doc.specs.WholeNumbers.{IsWhole}
use Rattle.odb_sched.specs.run.Answers.{answer}
use Rattle.odb_sched.specs.run.State.{State, size}
use Rattle.odb_reply.specs.NotWhole.{value_at}
use Rattle.odb_reply.specs.Responses.{answer_body}

-- The outcome is read again: memory can hold it, and its body has whole numbers and nests at most 124 deep, since a response
-- nests three levels deeper and `serde_json` reads 127.
pub record IsReadable (outcome : Outcome) : Type 0 where
  pub held : IsHeldOutcome outcome
  pub whole : IfSome outcome.body IsWhole
  pub shallow : IsShallow outcome.body

-- what holds of each outcome that answers a request
abbrev pub AnswersBy : (Outcome → Type 0) → State → Type 0
AnswersBy holds state = (i : ℕ) (outcome : Outcome) → i < size state → answer state i ≡ Some outcome → holds outcome

-- each body of a response nests at most 124 deep
abbrev pub HasShallowBodies : State → Type 0
HasShallowBodies state = (i : ℕ) → i < size state → IsShallow (answer_body (answer state i))

-- the same of the bodies that are values: of those that were reported as text it is known
abbrev pub HasShallowValues : List (Option (List ℕ)) → State → Type 0
HasShallowValues texts state = (i : ℕ) → i < size state → IsShallow (value_at texts state i)
