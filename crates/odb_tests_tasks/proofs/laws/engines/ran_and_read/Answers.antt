use Rattle.std.proofs.Common.{Some}
use Rattle.odb_engine.specs.Cascade.{Accepts, Answers}
use Rattle.odb_reply.specs.declared.strictness.Strictness.TheVariants.{Requests}
use Rattle.odb_engine.specs.ReadAgain.{IsReadAgain}
use Rattle.odb_engine.specs.declared.form.Form.TheVariants.{Lines}
use Rattle.odb_engine.specs.Runs.{Runs}
use Rattle.odb_tests_tasks.proofs.LawLemmas.{done_written}
use Rattle.odb_tests_tasks.proofs.laws.engines.ran_and_read.Goals as goal

pub returns : goal.returns
returns c =
    let events = c.args.events.now in
    done_written (λ it. it.0) (λ it. it.1.items) c.args.batch.now (λ bytes. Answers (Runs c.args.policy (Some events)) bytes Lines) (λ bytes text. Accepts bytes (λ requests. IsReadAgain Requests requests text))
    (λ bytes text. c.read_again.ensures.run c.args.policy Lines bytes events text) c.written.result c.written.ensures
