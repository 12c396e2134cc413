use Rattle.std.proofs.Common.{◌≡◌, length}
use Rattle.std.specs.Vec.Iter.{into_iter_items, into_iter_len}
use Rattle.odb_live.specs.declared.run.LiveRun.{LiveRun}
use Rattle.odb_calls.specs.Follows.{FollowsAll}
use Rattle.odb_calls.proofs.takes.follow.Given as goal

-- what the steps that are left lead to, all steps do
abbrev pub invariant-loop-step : goal.invariant-loop-step
invariant-loop-step l = record {
  left : into_iter_len l.step-iterator ≡ length (into_iter_items l.step-iterator);
  leads : (last : LiveRun) → FollowsAll l.live (into_iter_items l.step-iterator) last → FollowsAll l.fn.live l.fn.steps.items last;
}
