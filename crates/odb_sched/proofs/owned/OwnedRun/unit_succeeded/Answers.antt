-- No member is pending exactly when the unit has succeeded.
use Rattle.std.proofs.Common.{◌<◌, ◌==◌, ◌∙◌, ap, length}
use Rattle.std.proofs.lemmas.List.{get_or_read}
use Rattle.odb_sched.specs.run.Steps.{succeeded_in}
use Rattle.odb_sched.proofs.UnmetLemmas.{none_pending}
use Rattle.odb_sched.proofs.owned.OwnedRun.unit_succeeded.Goals as goal

pub returns : goal.returns
returns c =
    let within : c.unit_of.result < length c.self.inside.progress.counts.pending.items = rw c.self.invariant.counts.counts.ready.entries.pending c.unit_of.ensures.counted in
    rw (← c.self.view_is)
    (ap (λ n. n == 0) (get_or_read c.self.inside.progress.counts.pending.items c.unit_of.result c.index.result.now within c.index.ensures 0 ∙ c.self.invariant.counts.counts.pending c.unit_of.result c.unit_of.ensures.counted)
    ∙ none_pending c.self.inside.graph.plan_graph c.self.inside.progress.phases.items c.unit_of.result
    ∙ ap (succeeded_in c.self.inside.graph.plan_graph c.self.inside.progress.phases.items) c.unit_of.ensures.unit)
