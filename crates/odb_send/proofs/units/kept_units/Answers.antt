use Rattle.std.proofs.Common.{◌≡◌, ℕ, get_or, subst, arith}
use Rattle.odb_check.specs.Plans.{plan_graph, plan_records}
use Rattle.odb_check.specs.Units.{unit_count}
use Rattle.odb_doc.specs.Statuses.{is_success}
use Rattle.odb_reply.specs.Fits.{statuses}
use Rattle.odb_send.specs.Marks.{AreKept}
use Rattle.odb_send.proofs.MarkLemmas.{AreKept-all, passing_marks}
use Rattle.odb_send.proofs.units.kept_units.Goals as goal

pub returns : goal.returns
returns c =
    let rs = plan_records c.args.plan.now in
    let all = statuses c.args.table.now in
    let done = passing_marks rs (plan_graph c.args.plan.now) (λ i. is_success (get_or all i 0)) c.in_ok-done.done.items c.every_plan.ensures.plan_graph c.in_ok-done.ensures in
    let count : c.loop-u.u ≡ unit_count rs = omega (arith, c.loop-u.auto.u-end, c.len-u-end.ensures, done.count) in
    AreKept-all rs all c.in_ok-done.done.items c.in_ok-left_out.left_out.items c.loop-u.kept.items done c.in_ok-left_out.ensures
    (subst (λ (n : ℕ). AreKept c.in_ok-done.done.items c.in_ok-left_out.left_out.items n c.loop-u.kept.items) count c.loop-u.invariant)
