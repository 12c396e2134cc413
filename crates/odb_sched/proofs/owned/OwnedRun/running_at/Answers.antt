-- The end of the running positions is that of the positions that run.
use Rattle.std.proofs.Common.{◌≡◌, true, subst, sym}
use Rattle.odb_sched.specs.run.Choosing.{IsNone, ready_set}
use Rattle.odb_sched.specs.run.Steps.{is_finished}
use Rattle.odb_sched.proofs.EndLemmas.{none_runs, runs_at, finished_none}
use Rattle.odb_sched.proofs.owned.OwnedRun.running_at.Goals as goal

pub returns-clause-none : goal.returns-clause-none
returns-clause-none c = λ none. rw (← c.self.view_is)
    (none_runs _ c.self.inside.progress c.self.invariant.counts (c.of.ensures.none none))

pub returns-clause-finished : goal.returns-clause-finished
returns-clause-finished c = λ none ready. subst (λ state. is_finished state ≡ true) c.self.view_is
    (finished_none _ c.self.invariant.reached
    (subst (λ state. IsNone (ready_set state)) (sym c.self.view_is) ready)
    (none_runs _ c.self.inside.progress c.self.invariant.counts (c.of.ensures.none none)))

pub returns-clause-some : goal.returns-clause-some
returns-clause-some c = rw (← c.self.view_is)
    (runs_at _ c.self.inside.progress c.args.end c.of.result c.self.invariant.reached c.self.invariant.counts c.of.ensures.some)
