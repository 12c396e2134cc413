-- Before any event the state is reached, and the counts are those of it.
use Rattle.std.proofs.Common.{subst, sym, false, replicate}
use Rattle.odb_sched.specs.invariants.Kept.{IsCounted, state_of}
use Rattle.odb_sched.proofs.ReachedLemmas.{reached_first}
use Rattle.odb_sched.proofs.owned.OwnedRun.of_graph.Goals as goal

pub invariant_of-result : goal.invariant_of-result
invariant_of-result c =
    let new = c.in_ok-progress.progress in
    let told = c.in_ok-progress.ensures in
    record {
      reached = rw (told.going, told.phases, told.awaited) (reached_first c.args.graph.plan_graph c.args.policy c.laws.ensures.order);
      counts = subst (λ closed. IsCounted (state_of c.args.graph.plan_graph c.args.policy closed new.phases.items new.lanes.awaited.items) new) (sym told.going)
          (subst (λ awaited. IsCounted (state_of c.args.graph.plan_graph c.args.policy false new.phases.items awaited) new) (sym told.awaited)
          (subst (λ phases. IsCounted (state_of c.args.graph.plan_graph c.args.policy false phases (replicate c.args.graph.plan_graph.unit_count 0)) new) (sym told.phases) (told.counts c.args.policy)));
    }
