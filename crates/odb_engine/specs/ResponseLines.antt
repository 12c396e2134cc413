-- The response as it is printed.
use Rattle.std.specs.Prelude.{ℕ, List, [], ◌∷◌, ◌++◌}
use Rattle.odb_check.specs.Texts.{newline}
use Rattle.odb_sched.specs.run.State.{State}
use Rattle.odb_reply.specs.Responses.{response_text}

-- the response as a line
abbrev pub response_line : State → List ℕ
response_line state = response_text state ++ newline ∷ []
