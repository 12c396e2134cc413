use Rattle.std.proofs.Common.{false, Option, Some}
use Rattle.odb_reply.specs.declared.strictness.Strictness.{Strictness}
use Rattle.odb_sched.specs.declared.policy.Mode.{Mode}
use Rattle.odb_sched.specs.declared.order.Order.TheVariants.{Last}
use Rattle.odb_sched.specs.run.Choosing.{AllowsOrder}
use Rattle.odb_engine.specs.Cascade.{Answers}
use Rattle.odb_engine.specs.Replays.{Replays}
use Rattle.odb_engine.specs.Written.{IsDone, MayBeDocument}
use Rattle.odb_engine.specs.declared.ending.Ended.TheVariants.{Done}
use Rattle.odb_engine.specs.declared.form.Form.TheVariants.{Lines}
use Rattle.odb_engine.specs.declared.tasks.task.Task.TheVariants as tasks
use Rattle.odb_tests_tasks.proofs.WrittenLemmas.{of-short}
use Rattle.odb_tests_tasks.proofs.laws.written.replayed.Goals as goal

pub returns : goal.returns
returns c =
    let outcomes = c.args.outcomes.now in
    of-short (λ text. MayBeDocument text.items) c.args.batch.now (λ bytes text. Answers (Replays (AllowsOrder Last) c.args.policy false (Some outcomes)) bytes Lines Done text.items)
    (λ bytes text. (mode : Mode) (strict : Option Strictness) → IsDone (tasks.Match mode strict) bytes text.items)
    (λ bytes text short done mode strict. c.every_match.ensures.replay Last c.args.policy Lines strict mode bytes outcomes text.items done short)
    c.result_of_readers.result c.result_of_readers.ensures.short c.result_of_readers.ensures.done
