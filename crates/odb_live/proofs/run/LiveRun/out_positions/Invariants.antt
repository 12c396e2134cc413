use Rattle.std.proofs.Common.{take}
use Rattle.std.specs.List.{AllZip}
use Rattle.odb_check.specs.Plans.{plan_records}
use Rattle.odb_live.specs.Replies.{IsOutAt}
use Rattle.odb_live.proofs.run.LiveRun.out_positions.Given as goal

-- the positions of the requests so far
abbrev pub invariant-loop-k : goal.invariant-loop-k
invariant-loop-k l = AllZip (λ r i. IsOutAt l.fn.self r.id i) (take l.k (plan_records l.plan)) l.positions.items
