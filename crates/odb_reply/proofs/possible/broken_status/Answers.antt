use Rattle.std.proofs.Common.{◌≡◌, ◌≢◌, ◌∙◌, true, false, get_or, sym, ap}
use Rattle.std.proofs.lemmas.Bool.{both_ways}
use Rattle.std.proofs.lemmas.Option.{get_or_from_slice_get}
use Rattle.odb_check.specs.Plans.{plan_graph}
use Rattle.odb_check.specs.PlanGraph.{unit_of}
use Rattle.odb_doc.specs.Statuses.{is_success, is_status}
use Rattle.odb_reply.specs.Fits.{statuses}
use Rattle.odb_reply.specs.StatusFaults.{status_at}
use Rattle.odb_reply.proofs.StartsLemmas.{first_partial, first_unstarted, sound_at}
use Rattle.odb_reply.proofs.possible.broken_status.Goals as goal
use Rattle.odb_reply.proofs.possible.broken_status.Goals.{else-is_success-via-then-is_success+else-not-units-unit_of, else-is_success-via-else-is_success, else-status-ne-FAILED_DEPENDENCY-via-then-status-ne-FAILED_DEPENDENCY+else-not-started-i, else-status-ne-FAILED_DEPENDENCY-via-else-status-ne-FAILED_DEPENDENCY}

pub returns-then-not-units-unit_of-clause-first : goal.returns-then-not-units-unit_of-clause-first
returns-then-not-units-unit_of-clause-first c by have =
    let plan = plan_graph c.args.plan.now in
    let all = statuses c.args.table.now in
    let status = get_or_from_slice_get all c.args.i c.status-status.result 0 c.status-status.ensures in
    first_partial by plan (status_at all) c.args.units.now c.args.started.now c.every_plan.ensures.order c.requires.units have c.args.i c.requires.request (ap is_status status ∙ sym c.if-not-is_status.ensures) (ap is_success status ∙ sym c.if-is_success.ensures)
    (ap (λ u. get_or c.args.units.now u false) (sym c.unit_of.ensures.unit) ∙ c.if-not-units-unit_of.true)

pub returns-then-not-started-i-clause-first : goal.returns-then-not-started-i-clause-first
returns-then-not-started-i-clause-first c by have =
    let plan = plan_graph c.args.plan.now in
    let all = statuses c.args.table.now in
    let units = c.args.units.now in
    let status = get_or_from_slice_get all c.args.i c.status-status.result 0 c.status-status.ensures in
    let whole : is_success (status_at all c.args.i) ≡ true → get_or units (unit_of plan c.args.i) false ≡ true = elim c.else-is_success.branch [
      | else-is_success-via-then-is_success+else-not-units-unit_of w ↦ λ good. ap (λ u. get_or units u false) (sym w.unit_of.ensures.unit) ∙ w.if-not-units-unit_of.false
      | else-is_success-via-else-is_success w ↦ λ good. absurd (both_ways _ (ap is_success status ∙ sym w.if-is_success.ensures) good)
    ] in
    first_unstarted by plan (status_at all) units c.args.started.now c.every_plan.ensures.order c.requires.units have c.args.i c.requires.request (ap is_status status ∙ sym c.if-not-is_status.ensures) whole (λ same. c.if-status-ne-FAILED_DEPENDENCY.true (sym status ∙ same)) c.if-not-started-i.true

pub returns-clause-none : goal.returns-clause-none
returns-clause-none c by have =
    let plan = plan_graph c.args.plan.now in
    let all = statuses c.args.table.now in
    let units = c.args.units.now in
    let started = c.args.started.now in
    let status = get_or_from_slice_get all c.args.i c.status-status.result 0 c.status-status.ensures in
    let whole : is_success (status_at all c.args.i) ≡ true → get_or units (unit_of plan c.args.i) false ≡ true = elim c.else-is_success.branch [
      | else-is_success-via-then-is_success+else-not-units-unit_of w ↦ λ good. ap (λ u. get_or units u false) (sym w.unit_of.ensures.unit) ∙ w.if-not-units-unit_of.false
      | else-is_success-via-else-is_success w ↦ λ good. absurd (both_ways _ (ap is_success status ∙ sym w.if-is_success.ensures) good)
    ] in
    let begun : status_at all c.args.i ≢ 424 → get_or started c.args.i false ≡ true = elim c.else-status-ne-FAILED_DEPENDENCY.branch [
      | else-status-ne-FAILED_DEPENDENCY-via-then-status-ne-FAILED_DEPENDENCY+else-not-started-i w ↦ λ other. w.if-not-started-i.false
      | else-status-ne-FAILED_DEPENDENCY-via-else-status-ne-FAILED_DEPENDENCY w ↦ λ other. absurd (other (status ∙ w.if-status-ne-FAILED_DEPENDENCY.false))
    ] in
    sound_at by plan (status_at all) units started c.every_plan.ensures.order c.requires.units have c.args.i (ap is_status status ∙ sym c.if-not-is_status.ensures) whole begun
