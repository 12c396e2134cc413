-- The first free unit is the first that may begin, and what is left is counted as before.
use Rattle.std.proofs.Common.{◌≡◌, ◌<◌, ◌∙◌, ap, sym, subst, None, IfSome}
use Rattle.odb_check.specs.Firsts.{first_below}
use Rattle.odb_sched.specs.declared.counts.Progress.{Progress}
use Rattle.odb_sched.specs.run.State.{State}
use Rattle.odb_sched.specs.run.Units.{may_begin}
use Rattle.odb_sched.specs.invariants.Kept.{kept_state}
use Rattle.odb_sched.proofs.OpeningLemmas.{none_begins, first_unit, first_within, counted_asked}
use Rattle.odb_sched.proofs.owned.OwnedRun.next_unit.Goals as goal

pub first-requires-clause-begun : goal.first-requires-clause-begun
first-requires-clause-begun c = c.ask.ensures.counts.openings.entries.begun ∙ sym c.ask.ensures.counts.openings.entries.free

pub first-requires-clause-failed : goal.first-requires-clause-failed
first-requires-clause-failed c = c.ask.ensures.counts.units.each ∙ sym c.ask.ensures.counts.openings.entries.free

pub returns-clause-next : goal.returns-clause-next
returns-clause-next c =
    let s = c.self.inside in
    let counted = counted_asked (kept_state s) s.progress c.ask.new.self c.ask.ensures.rest (ap (λ (p : Progress). p.phases.items) c.ask.ensures.rest) c.ask.ensures.counts c.self.invariant.counts in
    subst (λ (state : State). c.first.result ≡ first_below state.plan_graph.unit_count (may_begin state)) c.self.view_is
    (first_unit (kept_state s) c.ask.new.self c.first.result c.self.invariant.reached.laws c.ask.ensures.asked counted (sym c.is_closed.ensures ∙ c.if-is_closed.false) c.first.ensures.none c.first.ensures.some)

pub returns-clause-within : goal.returns-clause-within
returns-clause-within c =
    let s = c.self.inside in
    let counted = counted_asked (kept_state s) s.progress c.ask.new.self c.ask.ensures.rest (ap (λ (p : Progress). p.phases.items) c.ask.ensures.rest) c.ask.ensures.counts c.self.invariant.counts in
    subst (λ (state : State). IfSome c.first.result (λ u. u < state.plan_graph.unit_count)) c.self.view_is
    (first_within (kept_state s) c.ask.new.self c.first.result counted c.first.ensures.some)

pub returns-then-is_closed-clause-next : goal.returns-then-is_closed-clause-next
returns-then-is_closed-clause-next c =
    let s = c.self.inside in
    let counted = counted_asked (kept_state s) s.progress c.ask.new.self c.ask.ensures.rest (ap (λ (p : Progress). p.phases.items) c.ask.ensures.rest) c.ask.ensures.counts c.self.invariant.counts in
    subst (λ (state : State). None ≡ first_below state.plan_graph.unit_count (may_begin state)) c.self.view_is
    (none_begins (kept_state s) c.ask.new.self c.self.invariant.reached.laws c.ask.ensures.asked counted (sym c.is_closed.ensures ∙ c.if-is_closed.true))
