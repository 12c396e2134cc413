-- A unit that is not refused may begin, and the counts follow.
use Rattle.std.proofs.Common.{◌≡◌, ◌∙◌, ◌||◌, ◌<◌, ◌≤◌, ap, sym, subst, true, length, set, arith, IfSome, count_by}
use Rattle.std.proofs.lemmas.Bool.{both_ways, false≢true}
use Rattle.odb_sched.specs.declared.counts.Progress.{Progress}
use Rattle.odb_sched.specs.run.State.{State, is_running, members_in, size}
use Rattle.odb_sched.specs.run.Steps.{stopped_in}
use Rattle.odb_sched.specs.run.Units.{may_begin, IsUnitCause}
use Rattle.odb_sched.specs.invariants.Kept.{state_of, kept_state, IsReached}
use Rattle.odb_sched.proofs.BeginLemmas.{may_begin-parts, unit_apart, unit_barred, unit_not_held_back}
use Rattle.odb_sched.proofs.MemberLemmas.{reached_unit}
use Rattle.odb_sched.proofs.owned.OwnedRun.start_unit.Goals as goal

pub returns-in-Some-clause-allowed : goal.returns-in-Some-clause-allowed
returns-in-Some-clause-allowed c = ((λ e. absurd (false≢true e)), (λ may. absurd (both_ways _ (unit_barred c.args.self.now c.args.u c.in-Some.cause (subst (λ found. IfSome found (IsUnitCause c.args.self.now c.args.u)) c.in-Some.is c.unit_refusal.ensures.cause)) may)))

pub returns-in-Some-clause-free : goal.returns-in-Some-clause-free
returns-in-Some-clause-free c wide is =
    let known : c.args.u < c.self.inside.graph.plan_graph.unit_count = subst (λ (state : State). c.args.u < state.plan_graph.unit_count) (sym c.self.view_is) c.requires in
    let some : 0 < members_in c.args.self.now.plan_graph c.args.u = subst (λ (state : State). 0 < members_in state.plan_graph c.args.u) c.self.view_is (c.laws.ensures.members c.args.u known) in
    let each : length c.args.self.now.phases ≡ size c.args.self.now = rw (← c.self.view_is) c.self.invariant.reached.each in
    let few : size c.args.self.now ≤ 10000 = rw (← c.self.view_is) c.self.invariant.reached.laws.few in
    unit_not_held_back c.args.self.now c.args.u some each (omega (arith, few, wide)) (subst (IsUnitCause c.args.self.now c.args.u) is (subst (λ found. IfSome found (IsUnitCause c.args.self.now c.args.u)) c.in-Some.is c.unit_refusal.ensures.cause))

pub begin_unit-requires-clause-apart : goal.begin_unit-requires-clause-apart
begin_unit-requires-clause-apart c =
    let known : c.args.u < c.self.inside.graph.plan_graph.unit_count = subst (λ (state : State). c.args.u < state.plan_graph.unit_count) (sym c.self.view_is) c.requires in
    let may : may_begin (kept_state c.self.inside) c.args.u ≡ true = subst (λ state. may_begin state c.args.u ≡ true) (sym c.self.view_is) (c.unit_refusal.ensures.none c.in_default.is) in
    unit_apart (kept_state c.self.inside) c.args.u c.self.invariant.reached (c.laws.ensures.members c.args.u known) (may_begin-parts (kept_state c.self.inside) c.args.u may).fresh

pub invariant_of-self : goal.invariant_of-self
invariant_of-self c =
    let s = c.self.inside in
    let u = c.args.u in
    let plan = s.graph.plan_graph in
    let new = c.begin_unit.new.self in
    let known : u < plan.unit_count = subst (λ (state : State). u < state.plan_graph.unit_count) (sym c.self.view_is) c.requires in
    let may = may_begin-parts (kept_state s) u (subst (λ state. may_begin state u ≡ true) (sym c.self.view_is) (c.unit_refusal.ensures.none c.in_default.is)) in
    let going = ap (λ (t : Progress). t.closed) c.begin_unit.ensures.rest in
    let apart = unit_apart (kept_state s) u c.self.invariant.reached c.begin_unit.ensures.some may.fresh in
    record {
      reached = subst (λ closed. IsReached (state_of plan s.policy closed new.phases.items new.lanes.awaited.items)) (sym going)
          (subst (λ awaited. IsReached (state_of plan s.policy s.progress.closed new.phases.items awaited)) (sym c.begin_unit.ensures.awaited)
          (subst (λ phases. IsReached (state_of plan s.policy s.progress.closed phases (set s.progress.lanes.awaited.items u (members_in plan u)))) (sym c.begin_unit.ensures.phases)
          (reached_unit (kept_state s) u c.self.invariant.reached may known c.begin_unit.ensures.some apart (ap (count_by is_running) (sym c.begin_unit.ensures.phases) ∙ c.begin_unit.ensures.running))));
      counts = record {
        counts = c.begin_unit.ensures.counts;
        stopped = ap (λ (t : Progress). t.stopped) c.begin_unit.ensures.rest ∙ c.self.invariant.counts.stopped
            ∙ ap (λ b. s.progress.closed || b) (sym (c.begin_unit.ensures.stopped s.policy.mode)) ∙ ap (λ b. b || stopped_in s.policy.mode new.phases.items) (sym going);
        lanes = c.begin_unit.ensures.lanes;
      };
    }
