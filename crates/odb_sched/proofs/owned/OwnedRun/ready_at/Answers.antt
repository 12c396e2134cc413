-- The end of the ready positions is that of the positions that may start.
use Rattle.std.proofs.Common.{◌≡◌, ◌<◌, true, subst, sym, IfSome}
use Rattle.odb_sched.specs.run.Choosing.{IsNone, ready_set, running_set}
use Rattle.odb_sched.specs.invariants.Ends.{IsAt}
use Rattle.odb_sched.specs.run.State.{size}
use Rattle.odb_sched.specs.run.Steps.{may_start, is_finished}
use Rattle.odb_sched.proofs.EndLemmas.{none_starts, starts_at, finished_none}
use Rattle.odb_sched.proofs.owned.OwnedRun.ready_at.Goals as goal

pub returns-clause-none : goal.returns-clause-none
returns-clause-none c = λ none. rw (← c.self.view_is)
    (none_starts _ c.self.inside.progress c.self.invariant.reached c.self.invariant.counts (c.ready_at.ensures.none none))

pub returns-clause-finished : goal.returns-clause-finished
returns-clause-finished c = λ none running. subst (λ state. is_finished state ≡ true) c.self.view_is
    (finished_none _ c.self.invariant.reached
    (none_starts _ c.self.inside.progress c.self.invariant.reached c.self.invariant.counts (c.ready_at.ensures.none none))
    (subst (λ state. IsNone (running_set state)) (sym c.self.view_is) running))

pub returns-clause-some : goal.returns-clause-some
returns-clause-some c = subst (λ state. IfSome c.ready_at.result (λ i. (i < size state) × (may_start state i ≡ true) × IsAt c.args.end (ready_set state) i)) c.self.view_is
    (starts_at _ c.self.inside.progress c.args.end c.ready_at.result c.self.invariant.reached c.self.invariant.counts c.ready_at.ensures.some c.ready_at.ensures.allowed)
