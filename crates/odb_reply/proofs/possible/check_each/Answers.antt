use Rattle.std.proofs.Common.{arith, inl, inr, subst, sym}
use Rattle.std.proofs.lemmas.Bool.{cases_eq}
use Rattle.odb_check.specs.Plans.{plan_graph}
use Rattle.odb_reply.specs.Fits.{statuses}
use Rattle.odb_reply.specs.Starts.{IsSound}
use Rattle.odb_reply.specs.StatusFaults.{status_at}
use Rattle.odb_reply.proofs.possible.check_each.Goals as goal

pub loop-i-preserved : goal.loop-i-preserved
loop-i-preserved c = λ by have k below. elim (cases_eq k c.loop-i.i) [
  | inl same ↦ subst (IsSound by (plan_graph c.args.plan.now) (status_at (statuses c.args.table.now))) (sym same) (c.in_default.ensures.none by have)
  | inr other ↦ c.loop-i.invariant by have k (omega (arith, below, other))
]
