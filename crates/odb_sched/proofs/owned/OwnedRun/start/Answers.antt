-- A start that is not refused may come, and the counts follow.
use Rattle.std.proofs.Common.{rules, ◌≡◌, ◌∙◌, ◌||◌, ap, sym, subst, true, length, refl, ◌<◌, ◌≤◌, arith, IfSome}
use Rattle.std.proofs.lemmas.Bool.{both_ways, false≢true}
use Rattle.odb_sched.specs.run.State.{size}
use Rattle.odb_sched.specs.run.Steps.{may_start, IsStartCause}
use Rattle.odb_sched.specs.invariants.Kept.{state_of, kept_state, IsReached}
use Rattle.odb_sched.specs.invariants.Lanes.{AreLanes}
use Rattle.odb_sched.specs.declared.counts.Progress.{Progress}
use Rattle.odb_sched.specs.declared.lanes.Lanes.{Lanes}
use Rattle.odb_sched.specs.run.Steps.{stopped_in}
use Rattle.odb_sched.proofs.StartLemmas.{may_start-parts}
use Rattle.odb_sched.proofs.CauseLemmas.{not_held_back, start_barred}
use Rattle.odb_sched.proofs.ReachedLemmas.{reached_started}
use Rattle.odb_sched.proofs.owned.OwnedRun.start.Goals as goal

pub returns-in-Some-clause-allowed : goal.returns-in-Some-clause-allowed
returns-in-Some-clause-allowed c = ((λ e. absurd (false≢true e)), (λ may. absurd (both_ways _ (start_barred c.args.self.now c.args.i c.in-Some.cause (subst (λ found. IfSome found (IsStartCause c.args.self.now c.args.i)) c.in-Some.is c.start_refusal.ensures.cause)) may)))

pub begin-requires-clause-fresh : goal.begin-requires-clause-fresh
begin-requires-clause-fresh c = (may_start-parts (kept_state c.self.inside) c.args.i (subst (λ state. may_start state c.args.i ≡ true) (sym c.self.view_is) (c.start_refusal.ensures.none c.in_default.is))).fresh

pub invariant_of-self : goal.invariant_of-self
invariant_of-self c =
    let s = c.self.inside in
    let plan = s.graph.plan_graph in
    let new = c.begin.new.self in
    let within : c.args.i < length plan.units = subst (λ state. c.args.i < size state) (sym c.self.view_is) c.requires in
    let may : may_start (kept_state s) c.args.i ≡ true = subst (λ state. may_start state c.args.i ≡ true) (sym c.self.view_is) (c.start_refusal.ensures.none c.in_default.is) in
    let going = ap (λ (t : Progress). t.closed) c.begin.ensures.rest in
    let awaited = ap (λ (t : Progress). t.lanes.awaited.items) c.begin.ensures.rest in
    record {
      reached = subst (λ closed. IsReached (state_of plan s.policy closed new.phases.items new.lanes.awaited.items)) (sym going)
          (subst (λ awaited. IsReached (state_of plan s.policy s.progress.closed new.phases.items awaited)) (sym awaited)
          (subst (λ phases. IsReached (state_of plan s.policy s.progress.closed phases s.progress.lanes.awaited.items)) (sym c.begin.ensures.phases) (reached_started (kept_state s) c.args.i c.self.invariant.reached within may)));
      counts = record {
        counts = c.begin.ensures.counts;
        stopped = ap (λ (t : Progress). t.stopped) c.begin.ensures.rest ∙ c.self.invariant.counts.stopped
            ∙ ap (λ b. s.progress.closed || b) (sym (c.begin.ensures.stopped s.policy.mode)) ∙ ap (λ b. b || stopped_in s.policy.mode new.phases.items) (sym going);
        lanes = subst (λ (t : Lanes). AreLanes t.awaited.items t) (sym (ap (λ (t : Progress). t.lanes) c.begin.ensures.rest)) c.self.invariant.counts.lanes;
      };
    }

pub returns-clause-allowed : goal.returns-clause-allowed
returns-clause-allowed c = ((λ _. c.start_refusal.ensures.none c.in_default.is), (λ _. refl))

pub returns-in-Some-clause-free : goal.returns-in-Some-clause-free
returns-in-Some-clause-free c wide is =
    let each : length c.args.self.now.phases ≡ size c.args.self.now = rw (← c.self.view_is) c.self.invariant.reached.each in
    let few : size c.args.self.now ≤ 10000 = rw (← c.self.view_is) c.self.invariant.reached.laws.few in
    not_held_back c.args.self.now c.args.i each c.requires (omega (arith, few, wide)) (subst (IsStartCause c.args.self.now c.args.i) is (subst (λ found. IfSome found (IsStartCause c.args.self.now c.args.i)) c.in-Some.is c.start_refusal.ensures.cause))

pub returns-in-Some-clause-cause : goal.returns-in-Some-clause-cause
returns-in-Some-clause-cause c = subst (λ found. IfSome found (IsStartCause c.args.self.now c.args.i)) c.in-Some.is c.start_refusal.ensures.cause

pub returns-in-Some-clause-err : goal.returns-in-Some-clause-err
returns-in-Some-clause-err c = search rules

pub returns-clause-cause : goal.returns-clause-cause
returns-clause-cause c = tt

pub returns-clause-err : goal.returns-clause-err
returns-clause-err c = tt

pub returns-clause-free : goal.returns-clause-free
returns-clause-free c = λ wide. tt
