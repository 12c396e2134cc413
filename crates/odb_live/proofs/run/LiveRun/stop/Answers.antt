use Rattle.std.proofs.Common.{ap}
use Rattle.odb_sched.specs.run.State.{State}
use Rattle.odb_live.proofs.LiveLemmas.{kept-with}
use Rattle.odb_live.proofs.run.LiveRun.stop.Goals as goal

pub invariant_of-self : goal.invariant_of-self
invariant_of-self c = kept-with c.self.inside c.stop.new.self (ap (λ (s : State). s.plan_graph) c.stop.ensures) c.self.invariant
