-- Whether each unit fits into a part.
use Rattle.std.proofs.Common.{◌<◌, ◌≤◌, subst, sym, arith, inl, inr}
use Rattle.std.proofs.lemmas.Bool.{cases_eq, false≢true}
use Rattle.odb_check.specs.Plans.{plan_records}
use Rattle.odb_check.specs.Units.{unit_count, unit_size}
use Rattle.odb_send.proofs.next_part.fits_limit.Goals as goal

pub returns-then-unit_size-limit : goal.returns-then-unit_size-limit
returns-then-unit_size-limit c =
    let rs = plan_records c.args.plan.now in
    let u = c.loop-u.u in
    let size = c.unit_size.ensures.size in
    let known : u < unit_count rs = omega (arith, c.loop-u-test.true, c.unit_count-u-end.ensures.count) in (
      (λ no. absurd (false≢true no)),
      (λ fits. let less : unit_size rs u ≤ c.args.limit = fits u known in absurd (omega (arith, size, less, c.if-unit_size-limit.true))),
    )

pub loop-u-preserved : goal.loop-u-preserved
loop-u-preserved c =
    let rs = plan_records c.args.plan.now in
    let u = c.loop-u.u in
    let size = c.unit_size.ensures.size in
    let here : unit_size rs u ≤ c.args.limit = omega (arith, size, c.if-unit_size-limit.false) in
    λ v below. elim (cases_eq v u) [
      | inl same ↦ subst (λ w. unit_size rs w ≤ c.args.limit) (sym same) here
      | inr other ↦ c.loop-u.invariant v (omega (arith, below, other))
    ]
