-- The needs of the members, one after another.
use Rattle.std.proofs.Common.{◌∙◌, ◌≤◌, ap, sym, refl, arith, not, find, [], length}
use Rattle.odb_check.specs.Firsts.{joined_below}
use Rattle.odb_sched.specs.run.Steps.{satisfied_in}
use Rattle.odb_sched.specs.run.Units.{outer_needs_at}
use Rattle.odb_sched.proofs.OuterLemmas.{none_more, some_more, outer_before_span, outer_to_span}
use Rattle.odb_sched.proofs.counts.Progress.first_outer.Goals as goal

pub loop-i-init : goal.loop-i-init
loop-i-init c = ap (find (λ need. not (satisfied_in c.args.graph.now.plan_graph c.args.self.now.phases.items need))) (sym (outer_before_span c.args.graph.now.plan_graph c.args.u _ _ [] c.members-members.ensures.span refl))

pub returns-in-Some : goal.returns-in-Some
returns-in-Some c =
    let most : c.members-members.result.end ≤ length c.args.graph.now.plan_graph.units = c.members-members.ensures.span.within in
    sym (some_more (λ need. not (satisfied_in c.args.graph.now.plan_graph c.args.self.now.phases.items need)) c.loop-i.i (length c.args.graph.now.plan_graph.units) (outer_needs_at c.args.graph.now.plan_graph c.args.u) c.in-Some.need
    c.loop-i.invariant (sym c.first_outer_at.ensures ∙ c.in-Some.is) (omega (arith, most, c.loop-i-test.true)))

pub loop-i-preserved : goal.loop-i-preserved
loop-i-preserved c = none_more (λ need. not (satisfied_in c.args.graph.now.plan_graph c.args.self.now.phases.items need)) c.loop-i.i (outer_needs_at c.args.graph.now.plan_graph c.args.u) c.loop-i.invariant (sym c.first_outer_at.ensures ∙ c.in_default.is)

pub returns : goal.returns
returns c =
    sym c.loop-i.invariant
    ∙ ap (find (λ need. not (satisfied_in c.args.graph.now.plan_graph c.args.self.now.phases.items need)))
    (outer_to_span c.args.graph.now.plan_graph c.args.u c.members-members.result.start c.members-members.result.end c.loop-i.i (joined_below c.loop-i.i (outer_needs_at c.args.graph.now.plan_graph c.args.u)) c.members-members.ensures.span
    c.loop-i.auto.i (c.loop-i.auto.i-end (let begins = c.members-members.ensures.span.begins in omega arith)) (omega (arith, c.loop-i-test.false)) refl)
