-- The rows of the members and of the unit have the dependents of the unit.
use Rattle.std.proofs.Common.{◌+◌, ◌∙◌, ap, inl, inr, length, refl}
use Rattle.odb_sched.specs.declared.counts.Counts.{Counts}
use Rattle.odb_sched.proofs.SkippedLemmas.{member_here}
use Rattle.odb_sched.proofs.DependentLemmas.{dependents_marked, marks_trans, member_needed, unit_is_needed, row_marked, rows_marked}
use Rattle.odb_sched.proofs.report.mark_dependents.Goals as goal

pub loop-r-preserved : goal.loop-r-preserved
loop-r-preserved c =
    let here = member_here c.args.graph.now.plan_graph c.args.u _ _ c.loop-r.r c.members-members.ensures.span c.loop-r.auto.r c.loop-r-test.true in
    record {
      marks = marks_trans _ _ _ c.loop-r.invariant.marks c.mark_units.ensures.marks;
      marked = rows_marked c.args.graph.now.plan_graph c.args.graph.now.dependents _ _ c.members-members.result.start c.loop-r.r c.mark_units.ensures.marks c.loop-r.invariant.marked
          (row_marked c.args.graph.now.plan_graph c.args.graph.now.dependents c.mark_units.new.counts.failed c.dependents_of.result.now c.loop-r.r c.dependents_of.ensures.row c.mark_units.ensures.marked);
      only = λ v marked. elim (c.mark_units.ensures.only v marked) [
        | inl before ↦ c.loop-r.invariant.only v before
        | inr some ↦ inr (member_needed c.args.graph.now.plan_graph c.args.graph.now.dependents c.dependents_of.result.now c.args.u c.loop-r.r v c.laws.ensures.dependents here.0 here.1 c.dependents_of.ensures.row some)
      ];
      rest = c.mark_units.ensures.rest ∙ ap (λ (t : Counts). record t { failed = c.mark_units.new.counts.failed }) c.loop-r.invariant.rest;
    }

pub returns-clause-marked : goal.returns-clause-marked
returns-clause-marked c = dependents_marked c.args.graph.now.plan_graph c.args.graph.now.dependents c.args.u _ _ c.loop-r.r _ _ c.laws.ensures.order c.laws.ensures.dependents c.requires.unit c.members-members.ensures.span c.loop-r-test.false c.loop-r.invariant.marked c.mark_units-2.ensures.marks
    (row_marked c.args.graph.now.plan_graph c.args.graph.now.dependents c.mark_units-2.new.counts.failed c.dependents_of_unit.result.now _ c.dependents_of_unit.ensures.row c.mark_units-2.ensures.marked)

pub returns-clause-only : goal.returns-clause-only
returns-clause-only c v marked = elim (c.mark_units-2.ensures.only v marked) [
  | inl before ↦ c.loop-r.invariant.only v before
  | inr some ↦ inr (unit_is_needed c.args.graph.now.plan_graph c.args.graph.now.dependents c.dependents_of_unit.result.now c.args.u (length c.args.graph.now.plan_graph.units + c.args.u) v c.laws.ensures.order c.laws.ensures.dependents c.requires.unit refl c.dependents_of_unit.ensures.row some)
]
