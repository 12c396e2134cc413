use Rattle.std.proofs.Common.{◌≡◌, ℕ, ◌<◌, Some}
use Rattle.odb_doc.specs.declared.recorded.outcome.Outcome.{Outcome}
use Rattle.odb_sched.specs.run.Answers.{answer}
use Rattle.odb_reply.specs.BodyTexts.{text_at}
use Rattle.odb_reply.specs.NotWhole.{HasWholeValue}
use Rattle.odb_reply.specs.Parts.{IsHeldBy}
use Rattle.odb_reply.proofs.whole.first_not_whole.Given as goal

abbrev pub invariant-loop-i : goal.invariant-loop-i
invariant-loop-i l = record {
  whole : (k : ℕ) → k < l.i → HasWholeValue (answer l.run k) (text_at l.texts k);
  held : (k : ℕ) → k < l.i → (outcome : Outcome) → answer l.run k ≡ Some outcome → IsHeldBy outcome (text_at l.texts k);
}
