use Rattle.std.proofs.Common.{◌≡◌, ◌++◌, string_bytes}
use Rattle.odb_sched.specs.run.Answers.{answer}
use Rattle.odb_reply.specs.BodyTexts.{text_with}
use Rattle.odb_reply.specs.Parts.{rest_text}
use Rattle.odb_reply.proofs.text.push_whole.Given as goal

-- the text so far, and then the remaining responses, are the whole
abbrev pub invariant-loop-i : goal.invariant-loop-i
invariant-loop-i g l = string_bytes l.text ++ rest_text (g.L.Labels.labels l.labels) l.texts (answer l.run) l.i ≡ string_bytes l.fn.text ++ text_with (g.L.Labels.labels l.labels) l.texts (answer l.run)
