use Rattle.std.proofs.Common.{◌≡◌, ◌∙◌, ap, sym, get_or}
use Rattle.std.proofs.lemmas.Option.{get_or_from_slice_get}
use Rattle.odb_doc.specs.batch.Records.{record_of}
use Rattle.odb_check.specs.Plans.{plan_records}
use Rattle.odb_reply.specs.Fits.{statuses}
use Rattle.odb_send.specs.Repeats.{may_repeat}
use Rattle.odb_send.proofs.MarkLemmas.{repeats_at}
use Rattle.odb_send.proofs.units.fn.left_out_units.barred_units+arg4.Goals as goal

pub returns : goal.returns
returns c =
    let all = statuses c.captures.table.now in
    let i = c.args.i in
    let status : get_or all i 0 ≡ c.status.result = get_or_from_slice_get all i c.status.result 0 c.status.ensures in
    c.may_repeat.ensures ∙ sym (repeats_at (plan_records c.captures.plan.now) all i (record_of c.request.result.now) c.request.ensures.value ∙ ap (may_repeat c.request.result.now.method) status)
