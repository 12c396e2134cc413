-- A replay, and a run by a document of events.
use Rattle.std.specs.Prelude.{◌≡◌, ℕ, true, List}
use Rattle.odb_doc.specs.batch.Records.{Record}
use Rattle.odb_sched.specs.declared.policy.Policy.{Policy}
use Rattle.odb_sched.specs.run.Choosing.{Allowance}
use Rattle.odb_engine.specs.ResponseLines.{response_line}
use Rattle.odb_engine.specs.declared.ending.Ended.{Ended}
use Rattle.odb_engine.specs.declared.ending.Ended.TheVariants.{Done}
use Rattle.odb_engine.specs.declared.form.Form.TheVariants.{Lines}
use Rattle.odb_engine.specs.Replayed.{RecordsSteps, RunsAgain}

-- The first text is that of a course with its trace. If the document of events records this course, the run by it is done, and
-- has written its response.
pub record IsRunAgain (allows : Allowance) (policy : Policy) (outcomes events text : List ℕ) (ended : Ended) (response bytes : List ℕ) (batch : List Record) : Type 0 where
  pub again : RunsAgain allows policy true Lines bytes outcomes text batch
  pub same : RecordsSteps batch again.entries again.steps events → (ended ≡ Done) × (response ≡ response_line again.last)
