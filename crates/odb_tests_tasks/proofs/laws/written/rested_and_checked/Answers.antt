use Rattle.std.proofs.Common.{List, [], subst, sym, ℕ}
use Rattle.odb_engine.specs.Written.{IsDone}
use Rattle.odb_engine.specs.declared.tasks.task.Task.TheVariants as tasks
use Rattle.odb_tests_tasks.proofs.laws.written.rested_and_checked.Goals as goal

pub returns : goal.returns
returns c =
    let text = c.in_ok-text.text.items in
    let done = c.every_rest.ensures c.args.mode c.args.form c.args.all c.args.batch.now c.args.responses.now text c.in_ok-text.ensures.done c.in_ok-text.ensures.short in
    c.ended.ensures (subst (λ (t : List ℕ). IsDone (tasks.Check c.args.all) t []) (sym c.deref.ensures.value) done)
