use Rattle.std.proofs.Common.{subst}
use Rattle.odb_dense.specs.Lists.{ListsOnce}
use Rattle.odb_sched.specs.run.State.{size}
use Rattle.odb_sched.specs.run.Steps.{may_start}
use Rattle.odb_sched.proofs.ChoiceLemmas.{listed_within}
use Rattle.odb_sched.proofs.CountedLemmas.{ready_listed}
use Rattle.odb_sched.proofs.owned.OwnedRun.ready.Goals as goal

pub returns-clause-listed : goal.returns-clause-listed
returns-clause-listed c = subst (λ state. ListsOnce (size state) (may_start state) c.ready.result.now) c.self.view_is
    (ready_listed _ c.self.inside.progress c.ready.result.now c.self.invariant.reached c.self.invariant.counts c.ready.ensures)

pub returns-clause-within : goal.returns-clause-within
returns-clause-within c = listed_within (size c.args.self.now) (may_start c.args.self.now) c.ready.result.now (returns-clause-listed c)
