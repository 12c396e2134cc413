use Rattle.std.proofs.Common.{◌∙◌, ap, sym, subst, length, replicate}
use Rattle.odb_sched.specs.declared.phase.Phase.TheVariants.{Unstarted}
use Rattle.odb_sched.specs.invariants.Lanes.{AreLanes}
use Rattle.odb_sched.proofs.StopLemmas.{stopped_first}
use Rattle.odb_sched.proofs.counts.Progress.new.Goals as goal

pub returns-clause-phases : goal.returns-clause-phases
returns-clause-phases c = c.in_ok-all_unstarted.ensures ∙ ap (λ n. replicate n Unstarted) c.len.ensures.size

pub returns-clause-counts : goal.returns-clause-counts
returns-clause-counts c = λ policy. record {
  counts = c.in_ok-new.ensures;
  lanes = subst (λ n. AreLanes (replicate n 0) c.in_ok-new-2.field-0) c.unit_count.ensures c.in_ok-new-2.ensures;
  stopped = sym (stopped_first policy.mode (length c.args.graph.now.plan_graph.units));
}
