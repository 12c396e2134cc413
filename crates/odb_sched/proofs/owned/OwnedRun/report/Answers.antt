-- A report that is not refused may come, and the counts follow.
use Rattle.std.proofs.Common.{refl, ◌≡◌, ◌<◌, sym, subst, true, IfSome}
use Rattle.std.proofs.lemmas.Bool.{and_parts}
use Rattle.odb_check.specs.PlanGraph.{unit_of}
use Rattle.odb_doc.specs.Statuses.{is_status}
use Rattle.odb_sched.specs.run.State.{is_running, awaited_after, size, phase_at}
use Rattle.odb_sched.specs.run.Steps.{may_report, IsReportCause}
use Rattle.odb_sched.specs.invariants.Kept.{state_of, kept_state, IsReached}
use Rattle.odb_sched.proofs.ReachedLemmas.{reached_reported}
use Rattle.odb_sched.proofs.owned.OwnedRun.report.Goals as goal

pub report-requires-clause-running : goal.report-requires-clause-running
report-requires-clause-running c =
    (and_parts (is_running (phase_at (kept_state c.self.inside) c.args.i)) (is_status c.args.outcome.status)
    (subst (λ state. may_report state c.args.i c.args.outcome ≡ true) (sym c.self.view_is) (c.report_refusal.ensures.none c.in_default.is))).0

pub invariant_of-self : goal.invariant_of-self
invariant_of-self c =
    let s = c.self.inside in
    let new = c.report.new.self in
    record {
      reached = subst (λ closed. IsReached (state_of s.graph.plan_graph s.policy closed new.phases.items new.lanes.awaited.items)) (sym c.report.ensures.closed)
          (subst (λ awaited. IsReached (state_of s.graph.plan_graph s.policy s.progress.closed new.phases.items awaited)) (sym c.report.ensures.awaited)
          (subst (λ phases. IsReached (state_of s.graph.plan_graph s.policy s.progress.closed phases (awaited_after s.progress.lanes.awaited.items (unit_of s.graph.plan_graph c.args.i)))) (sym c.report.ensures.phases)
          (reached_reported (kept_state s) c.args.i c.args.outcome c.self.invariant.reached (subst (λ state. c.args.i < size state) (sym c.self.view_is) c.requires)
          (subst (λ state. may_report state c.args.i c.args.outcome ≡ true) (sym c.self.view_is) (c.report_refusal.ensures.none c.in_default.is)))));
      counts = c.report.ensures.counts;
    }

pub returns-in-Some-clause-cause : goal.returns-in-Some-clause-cause
returns-in-Some-clause-cause c = subst (λ found. IfSome found (IsReportCause c.args.self.now c.args.i c.args.outcome)) c.in-Some.is c.report_refusal.ensures.cause

pub returns-in-Some-clause-back : goal.returns-in-Some-clause-back
returns-in-Some-clause-back c = refl
