-- The steps bring the counts to what they are after a success.
use Rattle.std.proofs.Common.{◌≡◌, ◌+◌, ◌-◌, ◌∙◌, suc, sym, ap, subst, arith, false, get_or, set}
use Rattle.odb_check.specs.PlanGraph.{unit_of}
use Rattle.odb_sched.specs.declared.counts.Counts.{Counts}
use Rattle.odb_sched.specs.invariants.Counts.{ArePending, ArePropagated, unmet_in, satisfied_by_unit, pending_in}
use Rattle.odb_sched.specs.invariants.Dependents.{need_count}
use Rattle.odb_sched.specs.invariants.Openings.{AreOpenings}
use Rattle.odb_sched.proofs.OpeningLemmas.{openings_reported}
use Rattle.odb_sched.proofs.PhaseLemmas.{succeeded_begun, succeeded_idle, succeeded_not_failed}
use Rattle.odb_sched.proofs.SameLemmas.{as_before, propagated_same, running_same}
use Rattle.odb_sched.proofs.ReadyLemmas.{as_long}
use Rattle.odb_sched.proofs.UnmetLemmas.{unmet_falls, pending_own, request_row}
use Rattle.odb_sched.proofs.SucceedLemmas.{pending_after, unmet_satisfied}
use Rattle.odb_sched.specs.declared.phase.Phase.TheVariants.{Unstarted, Running}
use Rattle.odb_sched.specs.run.State.{has_failed}
use Rattle.odb_sched.proofs.report.succeed.Goals as goal

-- the pending members of the request's unit before the step
pub count_success-requires-clause-some : goal.count_success-requires-clause-some
count_success-requires-clause-some c =
    let before : get_or c.args.counts.now.pending.items (unit_of c.args.graph.now.plan_graph c.args.i) 0 ≡ suc (pending_in c.args.graph.now.plan_graph c.args.phases.now (unit_of c.args.graph.now.plan_graph c.args.i)) =
    c.requires.counts.pending _ (c.laws.ensures.order.counted c.args.i c.requires.request) ∙ pending_own c.args.graph.now.plan_graph c.args.phases.now c.args.i c.requires.request (as_long _ _ _ _ _ c.requires.counts) c.requires.succeeded in
    rw (c.unit_of-unit.ensures.unit, before) (omega arith)

pub satisfy_each-requires-clause-openings : goal.satisfy_each-requires-clause-openings
satisfy_each-requires-clause-openings c = subst (λ (t : Counts). AreOpenings c.args.graph.now.plan_graph c.args.phases.now t.unmet.items t.openings) (sym c.count_success.ensures.rest)
    (openings_reported c.args.graph.now.plan_graph c.args.phases.now c.args.counts.now.unmet.items c.args.counts.now.openings c.args.i c.laws.ensures.order (succeeded_begun _ c.requires.succeeded) c.requires.counts.openings)

pub satisfy_each-requires-clause-enough : goal.satisfy_each-requires-clause-enough
satisfy_each-requires-clause-enough c = λ i inside.
    let before : get_or c.args.counts.now.unmet.items i 0 ≡ unmet_in c.args.graph.now.plan_graph c.args.phases.now i + (need_count c.args.graph.now.plan_graph c.args.i i + satisfied_by_unit c.args.graph.now.plan_graph c.args.phases.now (unit_of c.args.graph.now.plan_graph c.args.i) i) =
    c.requires.counts.unmet i inside ∙ unmet_falls c.args.graph.now.plan_graph c.args.phases.now c.args.i i c.laws.ensures.order c.requires.request inside (as_long _ _ _ _ _ c.requires.counts) c.requires.succeeded in
    rw (
      request_row c.args.graph.now.plan_graph c.args.i i c.args.graph.now.dependents c.dependents_of.result.now c.laws.ensures.dependents c.requires.request inside c.dependents_of.ensures.row,
      ap (λ (t : Counts). t.unmet.items) c.count_success.ensures.rest,
      before,
    ) (omega arith)

pub satisfy_unit-requires-clause-pending : goal.satisfy_unit-requires-clause-pending
satisfy_unit-requires-clause-pending c =
    let own = c.unit_of-unit.ensures.unit in
    let pending_now = c.count_success.ensures.pending ∙ ap (λ u. set c.args.counts.now.pending.items u (get_or c.args.counts.now.pending.items u 0 - 1)) own in
    rw (ap (λ (t : Counts). t.pending.items) c.satisfy_each.ensures.rest)
    (pending_after c.args.graph.now.plan_graph c.args.phases.now c.args.i c.args.counts.now.pending.items c.count_success.new.counts.pending.items c.laws.ensures.order c.requires.request (as_long _ _ _ _ _ c.requires.counts) c.requires.succeeded c.requires.counts.ready.entries.pending c.requires.counts.pending pending_now
    c.unit_of-unit.result c.unit_of-unit.ensures.counted)

pub satisfy_unit-requires-clause-enough : goal.satisfy_unit-requires-clause-enough
satisfy_unit-requires-clause-enough c = λ i inside.
    let listed = request_row c.args.graph.now.plan_graph c.args.i i c.args.graph.now.dependents c.dependents_of.result.now c.laws.ensures.dependents c.requires.request inside c.dependents_of.ensures.row in
    let same = ap (λ (t : Counts). get_or t.unmet.items i 0) c.count_success.ensures.rest in
    let before : get_or c.args.counts.now.unmet.items i 0 ≡ unmet_in c.args.graph.now.plan_graph c.args.phases.now i + (need_count c.args.graph.now.plan_graph c.args.i i + satisfied_by_unit c.args.graph.now.plan_graph c.args.phases.now (unit_of c.args.graph.now.plan_graph c.args.i) i) =
    c.requires.counts.unmet i inside ∙ unmet_falls c.args.graph.now.plan_graph c.args.phases.now c.args.i i c.laws.ensures.order c.requires.request inside (as_long _ _ _ _ _ c.requires.counts) c.requires.succeeded in
    let fallen : get_or c.satisfy_each.new.counts.unmet.items i 0 + need_count c.args.graph.now.plan_graph c.args.i i ≡ get_or c.args.counts.now.unmet.items i 0 =
    subst (λ n. get_or c.satisfy_each.new.counts.unmet.items i 0 + n ≡ get_or c.args.counts.now.unmet.items i 0) listed (c.satisfy_each.ensures.fallen i inside ∙ same) in
    rw c.unit_of-unit.ensures.unit (omega arith)

pub returns : goal.returns
returns c =
    let own = c.unit_of-unit.ensures.unit in
    let pending_now = c.count_success.ensures.pending ∙ ap (λ u. set c.args.counts.now.pending.items u (get_or c.args.counts.now.pending.items u 0 - 1)) own in
    let to_satisfied = c.satisfy_unit.ensures.rest ∙ ap (λ (t : Counts). record t { unmet = c.satisfy_unit.new.counts.unmet; ready = c.satisfy_unit.new.counts.ready; openings = c.satisfy_unit.new.counts.openings }) c.satisfy_each.ensures.rest in
    let to_left = to_satisfied ∙ ap (λ (t : Counts). record t { unmet = c.satisfy_unit.new.counts.unmet; ready = c.satisfy_unit.new.counts.ready; openings = c.satisfy_unit.new.counts.openings }) c.count_success.ensures.rest in
    let pending_same = ap (λ (t : Counts). t.pending.items) to_satisfied in
    let units_same = ap (λ (t : Counts). t.failed) to_left in
    record {
      ready = c.satisfy_unit.ensures.ready;
      openings = c.satisfy_unit.ensures.openings;
      unmet = unmet_satisfied c.args.graph.now.plan_graph c.args.phases.now c.args.i c.dependents_of.result.now c.args.counts.now.unmet.items c.satisfy_each.new.counts.unmet.items c.satisfy_unit.new.counts.unmet.items c.laws.ensures.order c.requires.request (as_long _ _ _ _ _ c.requires.counts) c.requires.succeeded
          (λ j inside. request_row c.args.graph.now.plan_graph c.args.i j c.args.graph.now.dependents c.dependents_of.result.now c.laws.ensures.dependents c.requires.request inside c.dependents_of.ensures.row)
          c.requires.counts.unmet
          (λ j inside. c.satisfy_each.ensures.fallen j inside ∙ ap (λ (t : Counts). get_or t.unmet.items j 0) c.count_success.ensures.rest)
          (λ j inside. subst (λ u. get_or c.satisfy_unit.new.counts.unmet.items j 0 + satisfied_by_unit c.args.graph.now.plan_graph c.args.phases.now u j ≡ get_or c.satisfy_each.new.counts.unmet.items j 0) own (c.satisfy_unit.ensures.fallen j inside));
      pending = subst (λ ps. ArePending c.args.graph.now.plan_graph c.args.phases.now ps) (sym pending_same)
          (pending_after c.args.graph.now.plan_graph c.args.phases.now c.args.i c.args.counts.now.pending.items c.count_success.new.counts.pending.items c.laws.ensures.order c.requires.request (as_long _ _ _ _ _ c.requires.counts) c.requires.succeeded c.requires.counts.ready.entries.pending c.requires.counts.pending pending_now);
      units = subst (ArePropagated c.args.graph.now.plan_graph c.args.phases.now) (sym units_same)
          (propagated_same c.args.graph.now.plan_graph (set c.args.phases.now c.args.i Running) c.args.phases.now c.args.counts.now.failed (as_before has_failed c.args.phases.now c.args.i Running (sym (succeeded_not_failed (get_or c.args.phases.now c.args.i Unstarted) c.requires.succeeded))) c.requires.counts.units);
      running = ap (λ (t : Counts). t.running) to_left ∙ c.remove.ensures ∙ ap (λ b. set b c.args.i false) c.requires.counts.running ∙ running_same c.args.phases.now c.args.i Running false (succeeded_idle _ c.requires.succeeded);
    }
