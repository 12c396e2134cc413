use Rattle.std.proofs.Common.{false, Some}
use Rattle.odb_sched.specs.run.Choosing.{AllowsOrder}
use Rattle.odb_sched.specs.declared.order.Order.TheVariants as orders
use Rattle.odb_engine.specs.Cascade.{Accepts, Answers}
use Rattle.odb_reply.specs.declared.strictness.Strictness.TheVariants.{Requests}
use Rattle.odb_engine.specs.ReadAgain.{IsReadAgain}
use Rattle.odb_engine.specs.declared.form.Form.TheVariants.{Lines}
use Rattle.odb_engine.specs.Replays.{Replays}
use Rattle.odb_tests_tasks.proofs.LawLemmas.{done_written}
use Rattle.odb_tests_tasks.proofs.laws.engines.replayed_and_read.Goals as goal

pub returns : goal.returns
returns c =
    let outcomes = c.args.outcomes.now in
    done_written (λ it. it.0) (λ it. it.1.items) c.args.batch.now (λ bytes. Answers (Replays (AllowsOrder orders.Last) c.args.policy false (Some outcomes)) bytes Lines) (λ bytes text. Accepts bytes (λ requests. IsReadAgain Requests requests text))
    (λ bytes text. c.read_again.ensures.replay orders.Last c.args.policy Lines bytes outcomes text) c.written.result c.written.ensures
