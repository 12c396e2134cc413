-- A turn takes one unit and marks those that depend on it; when the worklist is empty, all failed ones were taken.
use Rattle.std.proofs.Common.{◌≡◌, ◌⊎◌, ℕ, true, ◌∙◌, ap, subst, sym, get_or}
use Rattle.odb_sched.specs.declared.counts.Counts.{Counts}
use Rattle.odb_dense.specs.declared.worklist.Mark.TheVariants.{Unvisited}
use Rattle.odb_dense.specs.Marks.{is_marked}
use Rattle.odb_sched.specs.invariants.Counts.{HasReady, ArePropagated}
use Rattle.odb_sched.specs.invariants.Propagation.{HaveMarked, NeedsUnit}
use Rattle.odb_sched.proofs.ReadyLemmas.{ready_marked}
use Rattle.odb_sched.proofs.PropagateLemmas.{all_propagated, propagating_on, fewer_wait, others_kept}
use Rattle.odb_sched.proofs.report.propagate.Goals as goal

-- the marks before the step are those after the unit was taken
pub loop-u-smaller : goal.loop-u-smaller
loop-u-smaller c =
    let (within, waits, taken) = c.in-Some.ensures in
    fewer_wait c.args.graph.now.plan_graph c.loop-u.counts.failed c.mark_dependents.new.counts.failed c.in-Some.u c.loop-u.invariant.propagating.each within waits
    (subst (λ units. HaveMarked units c.mark_dependents.new.counts.failed) (ap (λ (t : Counts). t.failed) c.skip_members.ensures.rest ∙ taken) c.mark_dependents.ensures.marks)

pub loop-u-preserved : goal.loop-u-preserved
loop-u-preserved c =
    let (within, waits, taken) = c.in-Some.ensures in
    let units_are = ap (λ (t : Counts). t.failed) c.skip_members.ensures.rest in
    let marks = subst (λ units. HaveMarked units c.mark_dependents.new.counts.failed) units_are c.mark_dependents.ensures.marks in
    record {
      propagating = propagating_on c.args.graph.now.plan_graph c.args.phases.now c.loop-u.counts.failed c.mark_dependents.new.counts.failed c.in-Some.u c.laws.ensures.order c.loop-u.invariant.propagating within waits
          (subst (λ units. HaveMarked units c.mark_dependents.new.counts.failed) taken marks)
          c.mark_dependents.ensures.marked
          (subst (λ units. (v : ℕ) → is_marked (get_or c.mark_dependents.new.counts.failed v Unvisited) ≡ true → (is_marked (get_or units v Unvisited) ≡ true) ⊎ NeedsUnit c.args.graph.now.plan_graph v c.in-Some.u) (units_are ∙ taken) c.mark_dependents.ensures.only);
      ready = subst (HasReady c.args.graph.now.plan_graph c.args.phases.now) (sym c.mark_dependents.ensures.rest)
          (ready_marked c.args.graph.now.plan_graph c.args.phases.now c.skip_members.new.counts c.mark_dependents.new.counts.failed c.mark_dependents.ensures.marks c.skip_members.ensures.ready);
      rest = others_kept c.args.counts.now c.mark_dependents.new.counts
          (ap (λ (t : Counts). t.unmet) c.mark_dependents.ensures.rest ∙ ap (λ (t : Counts). t.unmet) c.skip_members.ensures.rest ∙ ap (λ (t : Counts). t.unmet) c.loop-u.invariant.rest)
          (ap (λ (t : Counts). t.pending) c.mark_dependents.ensures.rest ∙ ap (λ (t : Counts). t.pending) c.skip_members.ensures.rest ∙ ap (λ (t : Counts). t.pending) c.loop-u.invariant.rest)
          (ap (λ (t : Counts). t.running) c.mark_dependents.ensures.rest ∙ ap (λ (t : Counts). t.running) c.skip_members.ensures.rest ∙ ap (λ (t : Counts). t.running) c.loop-u.invariant.rest)
          (ap (λ (t : Counts). t.openings) c.mark_dependents.ensures.rest ∙ ap (λ (t : Counts). t.openings) c.skip_members.ensures.rest ∙ ap (λ (t : Counts). t.openings) c.loop-u.invariant.rest);
    }

pub returns-clause-propagated : goal.returns-clause-propagated
returns-clause-propagated c =
    let (same, none) = c.in_default.ensures in
    subst (ArePropagated c.args.graph.now.plan_graph c.args.phases.now) (sym same) (all_propagated c.args.graph.now.plan_graph c.args.phases.now c.loop-u.counts.failed c.loop-u.invariant.propagating none)
