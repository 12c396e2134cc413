-- No unit was sent.
use Rattle.std.proofs.Common.{◌∙◌, ap}
use Rattle.odb_sched.specs.run.State.{State, plan_graph}
use Rattle.odb_sched.specs.run.Steps.{spare_in}
use Rattle.odb_sched.proofs.LaneLemmas.{none_spare}
use Rattle.odb_sched.proofs.scheduler.Scheduler.new.Goals as goal

pub invariant_of-result : goal.invariant_of-result
invariant_of-result c = record {
  of_plan = ap (λ (s : State). s.plan_graph) c.in_ok-run.ensures.state;
  going = ap (λ (s : State). s.closed) c.in_ok-run.ensures.state;
  one_by_one = ap (λ (s : State). spare_in s.awaited) c.in_ok-run.ensures.state ∙ none_spare (plan_graph c.args.plan.now).unit_count;
}
