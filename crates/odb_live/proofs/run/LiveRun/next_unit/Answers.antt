use Rattle.std.proofs.Common.{ap}
use Rattle.odb_sched.specs.run.State.{State}
use Rattle.odb_live.proofs.LiveLemmas.{kept-with}
use Rattle.odb_live.proofs.run.LiveRun.next_unit.Goals as goal

pub invariant_of-self : goal.invariant_of-self
invariant_of-self c = kept-with c.self.inside c.next_unit.new.self (ap (λ (s : State). s.plan_graph) c.next_unit.ensures.same) c.self.invariant
