-- The first need that is neither an inner one nor satisfied is the first of the outer ones that is not.
use Rattle.std.proofs.Common.{◌≡◌, ◌∙◌, ◌||◌, sym, false, not, get_or, refl}
use Rattle.std.proofs.lemmas.Bool.{ne_eqb}
use Rattle.odb_check.specs.PlanGraph.{unit_needed, unit_of}
use Rattle.odb_check.specs.declared.need.Need.TheVariants.{One}
use Rattle.odb_sched.specs.run.Steps.{satisfied_in}
use Rattle.odb_sched.specs.run.Units.{is_outer}
use Rattle.odb_sched.proofs.ListLemmas.{find_first, find_nothing}
use Rattle.odb_sched.proofs.OuterLemmas.{outer_found}
use Rattle.odb_sched.proofs.counts.Progress.first_outer_at.Goals as goal

pub returns-then-not-is_satisfied : goal.returns-then-not-is_satisfied
returns-then-not-is_satisfied c =
    let plan = c.args.graph.now.plan_graph in
    let phases = c.args.self.now.phases.items in
    let here : (not (is_outer plan c.args.u (get_or c.needs-needs.result.now c.loop-need.need-index (One 0))) || satisfied_in plan phases (get_or c.needs-needs.result.now c.loop-need.need-index (One 0))) ≡ false =
    rw (ne_eqb (unit_needed (unit_of plan) (get_or c.needs-needs.result.now c.loop-need.need-index (One 0))) c.args.u (λ e. c.if-unit_needed-u.true (c.unit_needed.ensures ∙ e)), sym c.is_satisfied.ensures ∙ c.if-not-is_satisfied.true) refl in
    sym (outer_found plan c.args.u c.args.i (satisfied_in plan phases) c.needs-needs.result.now c.requires.member c.needs-needs.ensures.needs
    ∙ find_first (λ need. not (is_outer plan c.args.u need) || satisfied_in plan phases need) c.needs-needs.result.now c.loop-need.need-index (One 0) c.loop-need-test.true c.loop-need.invariant here)

pub returns : goal.returns
returns c =
    let plan = c.args.graph.now.plan_graph in
    let phases = c.args.self.now.phases.items in
    find_nothing (λ need. not (is_outer plan c.args.u need) || satisfied_in plan phases need) c.needs-needs.result.now c.loop-need.need-index c.loop-need-test.false c.loop-need.invariant
    ∙ sym (outer_found plan c.args.u c.args.i (satisfied_in plan phases) c.needs-needs.result.now c.requires.member c.needs-needs.ensures.needs)
