use Rattle.std.proofs.Common.{◌≡◌, ◌∙◌, true, false, get_or, option_and_then, refl, sym, ap}
use Rattle.std.proofs.lemmas.Bool.{true≢false}
use Rattle.std.proofs.lemmas.Option.{get_or_from_slice_get}
use Rattle.odb_doc.specs.batch.Records.{Record, record_of}
use Rattle.odb_check.specs.Plans.{plan_records, plan_graph}
use Rattle.odb_check.specs.Positions.{group_at}
use Rattle.odb_doc.specs.Statuses.{is_success}
use Rattle.odb_reply.specs.ResponseDocuments.{entries, entry_of}
use Rattle.odb_reply.specs.Fits.{places, statuses}
use Rattle.odb_reply.proofs.RuleLemmas.{place_within, first_differs, not_differs, first_unsound, not_success, not_failed, none_last}
use Rattle.odb_reply.proofs.fits.broken_rule.Goals as goal
use Rattle.odb_reply.proofs.fits.broken_rule.Goals.{else-is_success-via-then-is_success+else-has_failed_need, else-is_success-via-else-is_success}

pub entry-requires : goal.entry-requires
entry-requires c = place_within (plan_records c.args.plan.now) (entries c.args.responses.now) (places c.args.table.now) (statuses c.args.table.now) c.args.i c.place.result c.requires.rows c.place.ensures

pub returns-then-not-has_group-clause-first : goal.returns-then-not-has_group-clause-first
returns-then-not-has_group-clause-first c =
    let rs = plan_records c.args.plan.now in
    let group : group_at rs c.args.i ≡ (record_of c.request.result.now).group = ap (option_and_then (λ (r : Record). r.group)) c.request.ensures.value in
    first_differs rs (entries c.args.responses.now) (places c.args.table.now) (statuses c.args.table.now) c.args.i c.place.result (entry_of c.entry.result.now) c.requires.rows c.place.ensures c.entry.ensures
    (λ same. true≢false (sym (c.if-not-has_group.ensures.1 (same ∙ group))))

pub returns-then-has_failed_need-clause-first : goal.returns-then-has_failed_need-clause-first
returns-then-has_failed_need-clause-first c =
    let rs = plan_records c.args.plan.now in
    let es = entries c.args.responses.now in
    let all = statuses c.args.table.now in
    let group : group_at rs c.args.i ≡ (record_of c.request.result.now).group = ap (option_and_then (λ (r : Record). r.group)) c.request.ensures.value in
    let same = not_differs rs es (places c.args.table.now) all c.args.i c.place.result (entry_of c.entry.result.now) c.requires.rows c.place.ensures c.entry.ensures (c.if-not-has_group.ensures.0 refl ∙ sym group) in
    let passes : is_success (get_or all c.args.i 0) ≡ true = ap is_success (get_or_from_slice_get all c.args.i c.status.result 0 c.status.ensures) ∙ sym c.if-is_success.ensures in
    first_unsound rs es (places c.args.table.now) all c.args.units.now (plan_graph c.args.plan.now) c.args.i c.requires.rows c.requires.units c.every_plan.ensures.plan_graph c.every_plan.ensures.order c.requires.request same passes (sym c.if-has_failed_need.ensures)

pub returns-clause-none : goal.returns-clause-none
returns-clause-none c =
    let rs = plan_records c.args.plan.now in
    let es = entries c.args.responses.now in
    let all = statuses c.args.table.now in
    let group : group_at rs c.args.i ≡ (record_of c.request.result.now).group = ap (option_and_then (λ (r : Record). r.group)) c.request.ensures.value in
    let same = not_differs rs es (places c.args.table.now) all c.args.i c.place.result (entry_of c.entry.result.now) c.requires.rows c.place.ensures c.entry.ensures (c.if-not-has_group.ensures.0 refl ∙ sym group) in
    let status : get_or all c.args.i 0 ≡ c.status.result = get_or_from_slice_get all c.args.i c.status.result 0 c.status.ensures in
    elim c.else-is_success.branch [
      | else-is_success-via-then-is_success+else-has_failed_need w ↦
          none_last rs es c.args.i same (not_failed rs es (places c.args.table.now) all c.args.units.now (plan_graph c.args.plan.now) c.args.i c.requires.rows c.requires.units c.every_plan.ensures.plan_graph c.every_plan.ensures.order c.requires.request (sym w.if-has_failed_need.ensures))
      | else-is_success-via-else-is_success w ↦
          let failed : is_success (get_or all c.args.i 0) ≡ false = ap is_success status ∙ sym w.if-is_success.ensures in
          none_last rs es c.args.i same (not_success rs es (places c.args.table.now) all c.args.i c.requires.rows failed)
    ]
