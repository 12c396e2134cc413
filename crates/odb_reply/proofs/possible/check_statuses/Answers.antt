use Rattle.std.proofs.Common.{length, subst, sym}
use Rattle.odb_check.specs.Plans.{plan_graph}
use Rattle.odb_reply.specs.Fits.{statuses}
use Rattle.odb_reply.specs.Starts.{AreSent, AreStarts, HaveStarts}
use Rattle.odb_reply.specs.StatusFaults.{status_at}
use Rattle.odb_reply.proofs.StartsLemmas.{possible-from}
use Rattle.odb_reply.proofs.possible.check_statuses.Goals as goal

pub returns-clause-possible : goal.returns-clause-possible
returns-clause-possible c =
    let plan = plan_graph c.args.plan.now in
    let all = status_at (statuses c.args.table.now) in
    let by = c.args.strictness in
    let units = c.in_ok-units.units.items in
    let sent = c.in_ok-sent.sent.items in
    let started = c.in_ok-started.started.items in
    let have : HaveStarts by plan all units started = record {
      sent = sent;
      are_sent = subst (λ flags. AreSent by plan all flags sent) c.deref.ensures.value c.in_ok-sent.ensures;
      are_starts = subst (λ flags. AreStarts plan all units flags (length plan.units) started) c.deref-3.ensures.value
          (subst (λ flags. AreStarts plan all flags c.deref-3.result.now (length plan.units) started) c.deref-2.ensures.value c.in_ok-started.ensures);
    } in
    let given : HaveStarts by plan all c.deref-4.result.now c.deref-5.result.now = subst (λ flags. HaveStarts by plan all flags c.deref-5.result.now) (sym c.deref-4.ensures.value)
    (subst (λ flags. HaveStarts by plan all units flags) (sym c.deref-5.ensures.value) have) in
    possible-from by plan all units started c.every_plan.ensures.order
    c.in_ok-units.ensures have (c.in_ok-check_each.ensures.none by given)
