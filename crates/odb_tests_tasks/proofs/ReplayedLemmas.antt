-- What a replay and a run by a document of events have written.
use Rattle.std.proofs.Common.{◌≡◌, ℕ, true, List, Option, Some, None, IfSome, subst}
use Rattle.odb_sched.specs.declared.policy.Policy.{Policy}
use Rattle.odb_sched.specs.run.Choosing.{Allowance}
use Rattle.odb_engine.specs.declared.ending.Ended.{Ended}
use Rattle.odb_engine.specs.declared.ending.Ended.TheVariants.{Done}
use Rattle.odb_engine.specs.declared.form.Form.TheVariants.{Lines}
use Rattle.odb_engine.specs.Cascade.{Accepts, Answers, IsOne}
use Rattle.odb_engine.specs.Inputs.{SomeDocument}
use Rattle.odb_engine.specs.Replayed.{RunsAgain}
use Rattle.odb_engine.specs.Replays.{Replays}
use Rattle.odb_engine.specs.Runs.{Runs}
use Rattle.odb_tests_tasks.specs.Replayed.{IsRunAgain}
use Rattle.odb_tests_tasks.proofs.LawLemmas.{IsOneDocument}

module _ (allows : Allowance) (policy : Policy) (outcomes events : List ℕ) where
  -- the law of odb_engine on a replay, and that a run writes one text
  pub record AreLaws : Type 0 where
    pub again : (bytes text : List ℕ) → Answers (Replays allows policy true (Some outcomes)) bytes Lines Done text → Accepts bytes (RunsAgain allows policy true Lines bytes outcomes text)
    pub one : (bytes : List ℕ) → IsOne (Answers (Runs policy (Some events)) bytes Lines)

  run-again : AreLaws → (bytes text : List ℕ) (ended : Ended) (response : List ℕ) → Answers (Replays allows policy true (Some outcomes)) bytes Lines Done text → Answers (Runs policy (Some events)) bytes Lines ended response
      → Accepts bytes (IsRunAgain allows policy outcomes events text ended response bytes)
  run-again law bytes text ended response replayed ran =
      let again = law.again bytes text replayed in
      let batch = again.holds in
      record {
        value = again.value;
        document = again.document;
        holds = record {
          batch = batch.batch;
          shaped = batch.shaped;
          is_batch = batch.is_batch;
          holds = (batch.holds.0, record { again = batch.holds.1; same = λ records. law.one bytes ended Done response _ ran (batch.holds.1.again events records) });
        };
      }

  -- of a call that replays the batch that a reader gives, and one that runs it
  pub both-written : {X : Type 0} (ended : X → Ended) (text : X → List ℕ) (left : List ℕ) → IsOneDocument left → AreLaws → (a b : Option X)
      → IfSome a (λ x. SomeDocument (Some left) (λ bytes. Answers (Replays allows policy true (Some outcomes)) bytes Lines (ended x) (text x)))
      → IfSome b (λ y. SomeDocument (Some left) (λ bytes. Answers (Runs policy (Some events)) bytes Lines (ended y) (text y)))
      → IfSome a (λ x. IfSome b (λ y. ended x ≡ Done → SomeDocument (Some left) (λ bytes. Accepts bytes (IsRunAgain allows policy outcomes events (text x) (ended y) (text y) bytes))))
  both-written ended text left document law None b _ _ = tt
  both-written ended text left document law (Some x) None _ _ = tt
  both-written ended text left document law (Some x) (Some y) (bytes, gives, replayed) (others, give, ran) = λ done. (
    bytes,
    gives,
    run-again law bytes (text x) (ended y) (text y) (subst (λ e. Answers (Replays allows policy true (Some outcomes)) bytes Lines e (text x)) done replayed)
        (subst (λ d. Answers (Runs policy (Some events)) d Lines (ended y) (text y)) (document others bytes give gives) ran),
  )
