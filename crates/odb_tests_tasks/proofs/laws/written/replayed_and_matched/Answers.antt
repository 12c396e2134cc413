use Rattle.std.proofs.Common.{List, subst, sym, ℕ}
use Rattle.odb_sched.specs.declared.order.Order.TheVariants.{Last}
use Rattle.odb_engine.specs.Written.{IsDone}
use Rattle.odb_engine.specs.declared.tasks.task.Task.TheVariants as tasks
use Rattle.odb_tests_tasks.proofs.laws.written.replayed_and_matched.Goals as goal

pub returns : goal.returns
returns c =
    let (mode, strict) = c.args.how in
    let batch = c.args.batch.now in
    let text = c.in_ok-text.text.items in
    let done = c.every_match.ensures.replayed Last c.args.policy c.args.form strict mode batch c.args.outcomes.now text c.in_ok-text.ensures.done c.in_ok-text.ensures.short in
    c.ended.ensures (subst (λ (t : List ℕ). IsDone (tasks.Match mode strict) batch t) (sym c.deref.ensures.value) done)
