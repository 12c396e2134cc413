use Rattle.std.proofs.Common.{◌≡◌, Some, rules}
use Rattle.odb_doc.specs.declared.recorded.outcome.Outcome.{Outcome}
use Rattle.odb_sched.specs.run.Answers.{answer}
use Rattle.odb_reply.specs.BodyTexts.{text_at}
use Rattle.odb_reply.specs.NotWhole.{HasWholeValue}
use Rattle.odb_reply.specs.Parts.{IsHeldBy}
use Rattle.odb_reply.proofs.ReadableLemmas.{below_more}
use Rattle.odb_reply.proofs.whole.first_not_whole.Goals as goal

pub returns-then-not-has_whole_value-clause-first : goal.returns-then-not-has_whole_value-clause-first
returns-then-not-has_whole_value-clause-first c = search rules

pub loop-i-preserved : goal.loop-i-preserved
loop-i-preserved c =
    let run = c.args.run.now in
    let texts = c.args.texts.now in
    let i = c.loop-i.i in
    let whole : HasWholeValue (answer run i) (text_at texts i) = search rules in
    let held : (outcome : Outcome) → answer run i ≡ Some outcome → IsHeldBy outcome (text_at texts i) = search rules in
    record {
      whole = below_more (λ k. HasWholeValue (answer run k) (text_at texts k)) i c.loop-i.invariant.whole whole;
      held = below_more (λ k. (outcome : Outcome) → answer run k ≡ Some outcome → IsHeldBy outcome (text_at texts k)) i c.loop-i.invariant.held held;
    }
