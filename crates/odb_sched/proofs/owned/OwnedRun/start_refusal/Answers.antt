-- The last cause against a start, and that there is none.
use Rattle.std.proofs.Common.{◌≡◌, ◌<◌, ◌≤◌, ◌+◌, ◌∙◌, ap, sym, arith, ltb-true, ltb-false, true, false, not, None, find}
use Rattle.std.proofs.lemmas.Bool.{not-true, not-false}
use Rattle.odb_check.specs.PlanGraph.{unit_of, needs_of}
use Rattle.odb_sched.specs.run.State.{is_unstarted, State, phase_at}
use Rattle.odb_sched.specs.run.Steps.{is_stopped, unit_failed, is_satisfied, running_count, places}
use Rattle.odb_sched.specs.invariants.Kept.{kept_state}
use Rattle.odb_sched.proofs.CountedLemmas.{running_is, places_is}
use Rattle.odb_sched.proofs.CauseLemmas.{first_full, none_bars}
use Rattle.odb_sched.proofs.owned.OwnedRun.start_refusal.Goals as goal

pub returns-then-is_full-clause-cause : goal.returns-then-is_full-clause-cause
returns-then-is_full-clause-cause c =
    let fresh : is_unstarted (phase_at c.args.self.now c.args.i) ≡ true = ap is_unstarted (sym c.phase.ensures) ∙ sym c.is_unstarted.ensures ∙ c.if-not-is_unstarted.false in
    let going : is_stopped c.args.self.now ≡ false = ap is_stopped (sym c.self.view_is) ∙ sym c.self.invariant.counts.stopped ∙ c.if-self.false in
    let sound : unit_failed c.args.self.now (unit_of c.args.self.now.plan_graph c.args.i) ≡ false = sym c.unit_failed.ensures ∙ c.if-unit_failed.false in
    let met : find (λ need. not (is_satisfied c.args.self.now need)) (needs_of c.args.self.now.plan_graph c.args.i) ≡ None =
    ap (λ (state : State). find (λ need. not (is_satisfied state need)) (needs_of state.plan_graph c.args.i)) (sym c.self.view_is) ∙ sym c.first_unmet.ensures ∙ c.in_default.is in
    let counted = running_is (kept_state c.self.inside) c.self.inside.progress c.self.invariant.counts ∙ ap running_count c.self.view_is in
    let width : c.self.inside.policy.width + c.self.inside.progress.lanes.spare ≡ places c.args.self.now = places_is (kept_state c.self.inside) c.self.inside.progress c.self.invariant.counts ∙ ap places c.self.view_is in
    let full : places c.args.self.now ≤ running_count c.args.self.now = omega (arith, ltb-false _ _ (not-true _ (sym c.is_full.ensures ∙ c.if-is_full.true))) in
    first_full c.args.self.now c.args.i fresh going sound met full

pub returns-clause-none : goal.returns-clause-none
returns-clause-none c is =
    let fresh : is_unstarted (phase_at c.args.self.now c.args.i) ≡ true = ap is_unstarted (sym c.phase.ensures) ∙ sym c.is_unstarted.ensures ∙ c.if-not-is_unstarted.false in
    let going : is_stopped c.args.self.now ≡ false = ap is_stopped (sym c.self.view_is) ∙ sym c.self.invariant.counts.stopped ∙ c.if-self.false in
    let sound : unit_failed c.args.self.now (unit_of c.args.self.now.plan_graph c.args.i) ≡ false = sym c.unit_failed.ensures ∙ c.if-unit_failed.false in
    let met : find (λ need. not (is_satisfied c.args.self.now need)) (needs_of c.args.self.now.plan_graph c.args.i) ≡ None =
    ap (λ (state : State). find (λ need. not (is_satisfied state need)) (needs_of state.plan_graph c.args.i)) (sym c.self.view_is) ∙ sym c.first_unmet.ensures ∙ c.in_default.is in
    let counted = running_is (kept_state c.self.inside) c.self.inside.progress c.self.invariant.counts ∙ ap running_count c.self.view_is in
    let width : c.self.inside.policy.width + c.self.inside.progress.lanes.spare ≡ places c.args.self.now = places_is (kept_state c.self.inside) c.self.inside.progress c.self.invariant.counts ∙ ap places c.self.view_is in
    let room : running_count c.args.self.now < places c.args.self.now = omega (arith, ltb-true _ _ (not-false _ (sym c.is_full.ensures ∙ c.if-is_full.false))) in
    none_bars c.args.self.now c.args.i fresh going sound met room
