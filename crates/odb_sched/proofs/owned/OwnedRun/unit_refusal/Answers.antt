-- No cause bars that a unit is sent as one.
use Rattle.std.proofs.Common.{◌≡◌, ◌<◌, ◌+◌, ◌∙◌, ap, sym, subst, arith, ltb-true, false, not, None, find, length}
use Rattle.std.proofs.lemmas.Bool.{not-false}
use Rattle.std.proofs.lemmas.List.{get_or_read}
use Rattle.odb_sched.specs.run.State.{State}
use Rattle.odb_sched.specs.run.Units.{has_begun, outer_needs}
use Rattle.odb_sched.specs.run.Steps.{is_stopped, unit_failed, is_satisfied, running_count, places}
use Rattle.odb_sched.specs.invariants.Kept.{kept_state}
use Rattle.odb_sched.proofs.BeginLemmas.{none_bars_unit}
use Rattle.odb_sched.proofs.CountedLemmas.{running_is, places_is}
use Rattle.odb_sched.proofs.owned.OwnedRun.unit_refusal.Goals as goal

pub returns-clause-none : goal.returns-clause-none
returns-clause-none c is =
    let s = c.self.inside in
    let now = c.args.self.now in
    let u = c.args.u in
    let counts = c.self.invariant.counts in
    let inside : u < s.graph.plan_graph.unit_count = subst (λ (state : State). u < state.plan_graph.unit_count) (sym c.self.view_is) c.requires in
    let within : u < length s.progress.counts.openings.begun.items = rw counts.counts.openings.entries.begun inside in
    let fresh : has_begun now u ≡ false = ap (λ state. has_begun state u) (sym c.self.view_is) ∙ sym (counts.counts.openings.begun u inside) ∙ sym (get_or_read s.progress.counts.openings.begun.items u c.index.result.now within c.index.ensures false) ∙ c.if-index.false in
    let going : is_stopped now ≡ false = ap is_stopped (sym c.self.view_is) ∙ sym counts.stopped ∙ c.if-self.false in
    let sound : unit_failed now u ≡ false = ap (λ state. unit_failed state u) (sym c.self.view_is) ∙ sym (counts.counts.units.failed u inside) ∙ sym c.is_visited.ensures ∙ c.if-is_visited.false in
    let met : find (λ need. not (is_satisfied now need)) (outer_needs now.plan_graph u) ≡ None =
    ap (λ (state : State). find (λ need. not (is_satisfied state need)) (outer_needs state.plan_graph u)) (sym c.self.view_is) ∙ sym c.first_outer.ensures ∙ c.in_default.is in
    let counted = running_is (kept_state s) s.progress counts ∙ ap running_count c.self.view_is in
    let width : s.policy.width + s.progress.lanes.spare ≡ places now = places_is (kept_state s) s.progress counts ∙ ap places c.self.view_is in
    let room : running_count now < places now = omega (arith, ltb-true _ _ (not-false _ (sym c.is_full.ensures ∙ c.if-is_full.false))) in
    none_bars_unit now u fresh going sound met room
