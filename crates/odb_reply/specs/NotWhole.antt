-- When a response has no text, since it holds a number that is not whole; and what is printed of that.
use Rattle.std.specs.Prelude.{ℕ, List, Option, None}
use Rattle.serde_json.specs.Data.{Data}
use Rattle.odb_doc.specs.Faults.{text_row}
use Rattle.odb_doc.specs.Refusals.{Printed}
use Rattle.odb_doc.specs.WholeNumbers as whole_numbers
use Rattle.odb_doc.specs.declared.fault.TextFault.TheVariants as texts
use Rattle.odb_doc.specs.declared.recorded.outcome.Outcome.{Outcome}
use Rattle.odb_sched.specs.run.Answers.{answer}
use Rattle.odb_sched.specs.run.State.{State, size}
use Rattle.odb_reply.specs.declared.write.ReplyFault.{ReplyFault}
use Rattle.odb_reply.specs.declared.write.ReplyFault.TheVariants.{NotWhole, Write, OutOfMemory}
use Rattle.odb_reply.specs.BodyTexts.{text_at, value_body}
use Rattle.odb_reply.specs.Responses.{answer_body}

-- the body that answers the request at a position, if any
abbrev pub body_at : State → ℕ → Option Data
body_at state i = answer_body (answer state i)

-- each number in the body of an answer is whole
abbrev pub HasWholeBody : Option Outcome → Type 0
HasWholeBody answer = whole_numbers.HasWholeBody (answer_body answer)

-- each number in the bodies of a finished run is whole
abbrev pub HasWholeBodies : State → Type 0
HasWholeBodies state = whole_numbers.HasWholeBodies (size state) (body_at state)

-- the first request that is answered by a body with a number that is not whole
abbrev pub IsFirstNotWhole : State → ℕ → Type 0
IsFirstNotWhole state at = whole_numbers.IsFirstNotWhole (size state) (body_at state) at

-- the same of the bodies that are values: a body that was reported as text may hold any number
abbrev pub value_at : List (Option (List ℕ)) → State → ℕ → Option Data
value_at texts state i = value_body (answer state i) (text_at texts i)

abbrev pub HasWholeValue : Option Outcome → Option (List ℕ) → Type 0
HasWholeValue answer text = whole_numbers.HasWholeBody (value_body answer text)

abbrev pub HasWholeValues : List (Option (List ℕ)) → State → Type 0
HasWholeValues texts state = whole_numbers.HasWholeBodies (size state) (value_at texts state)

abbrev pub IsFirstNotWholeValue : List (Option (List ℕ)) → State → ℕ → Type 0
IsFirstNotWholeValue texts state at = whole_numbers.IsFirstNotWhole (size state) (value_at texts state) at

-- what is printed of a fault of a response: of F50 what odb_doc prints of it
abbrev pub reply_row : ReplyFault → Option Printed
reply_row (NotWhole at) = text_row (texts.NotWhole at)
reply_row Write = None
reply_row OutOfMemory = None
