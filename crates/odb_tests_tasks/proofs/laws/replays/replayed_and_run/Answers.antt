use Rattle.std.proofs.Common.{true}
use Rattle.odb_sched.specs.declared.order.Order.TheVariants.{Wide}
use Rattle.odb_sched.specs.run.Choosing.{AllowsOrder}
use Rattle.odb_engine.specs.declared.form.Form.TheVariants.{Lines}
use Rattle.odb_engine.specs.declared.tasks.task.Task.TheVariants as tasks
use Rattle.odb_tests_tasks.proofs.ReplayedLemmas.{AreLaws, both-written}
use Rattle.odb_tests_tasks.proofs.laws.replays.replayed_and_run.Goals as goal

pub returns : goal.returns
returns c =
    let policy = c.args.policy in
    let outcomes = c.args.outcomes.now in
    let events = c.args.events.now in
    let laws : AreLaws (AllowsOrder Wide) policy outcomes events = record {
      again = λ bytes text. c.every_replay.ensures Wide policy true Lines bytes outcomes text;
      one = λ bytes. c.one_text.ensures.task (tasks.Run policy) Lines bytes events;
    } in
    both-written (AllowsOrder Wide) policy outcomes events (λ it. it.0) (λ it. it.1.items) c.args.batch.now (c.one_document.ensures c.args.batch.now) laws c.written.result c.written-2.result c.written.ensures c.written-2.ensures
