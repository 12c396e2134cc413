-- What is reached and counted stays so, and the run is stopped.
use Rattle.std.proofs.Common.{refl, true}
use Rattle.odb_sched.specs.invariants.Kept.{kept_state}
use Rattle.odb_sched.proofs.ReachedLemmas.{reached_closed}
use Rattle.odb_sched.proofs.owned.OwnedRun.stop.Goals as goal

pub invariant_of-self : goal.invariant_of-self
invariant_of-self c = rw c.stop.ensures (record {
  reached = reached_closed (kept_state c.self.inside) true c.self.invariant.reached;
  counts = record { counts = c.self.invariant.counts.counts; stopped = refl; lanes = c.self.invariant.counts.lanes };
})
