use Rattle.std.proofs.Common.{Option, Some}
use Rattle.odb_reply.specs.declared.strictness.Strictness.{Strictness}
use Rattle.odb_reply.specs.declared.strictness.Strictness.TheVariants.{Requests}
use Rattle.odb_sched.specs.declared.policy.Mode.{Mode}
use Rattle.odb_engine.specs.Cascade.{Answers}
use Rattle.odb_engine.specs.Runs.{Runs}
use Rattle.odb_engine.specs.Written.{IsDone, MayBeDocument}
use Rattle.odb_engine.specs.declared.ending.Ended.TheVariants.{Done}
use Rattle.odb_engine.specs.declared.form.Form.TheVariants.{Lines}
use Rattle.odb_engine.specs.declared.tasks.task.Task.TheVariants as tasks
use Rattle.odb_tests_tasks.proofs.WrittenLemmas.{allowed, of-short}
use Rattle.odb_tests_tasks.proofs.laws.written.ran_and_read.Goals as goal

pub returns : goal.returns
returns c =
    let events = c.args.events.now in
    of-short (λ text. MayBeDocument text.items) c.args.batch.now (λ bytes text. Answers (Runs c.args.policy (Some events)) bytes Lines Done text.items)
    (λ bytes text. (mode : Mode) (strict : Option Strictness) → IsDone (tasks.Match mode strict) bytes text.items)
    (λ bytes text short done mode strict. c.every_match.ensures.fits Requests strict mode bytes text.items (allowed strict) (c.read_again.ensures.run c.args.policy Lines bytes events text.items done) short)
    c.result_of_readers.result c.result_of_readers.ensures.short c.result_of_readers.ensures.done
