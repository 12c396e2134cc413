use Rattle.std.proofs.Common.{◌≡◌, ◌∙◌, ◌<◌, Bool, false, length, slice_index, ap, arith, subst, sym}
use Rattle.std.proofs.lemmas.List.{get_or_default}
use Rattle.odb_check.specs.Plans.{plan_graph, plan_records}
use Rattle.odb_check.specs.Units.{unit_at, unit_count}
use Rattle.odb_check.proofs.UnitLemmas.{unit_before}
use Rattle.odb_doc.specs.Statuses.{is_success}
use Rattle.odb_reply.specs.Fits.{places, statuses}
use Rattle.odb_reply.specs.ResponseDocuments.{entries}
use Rattle.odb_send.specs.Rests.{kept}
use Rattle.odb_send.specs.Units.{AreMarksOf, IsDone, marked}
use Rattle.odb_send.proofs.MarkLemmas.{passing_marks}
use Rattle.odb_tests_text.specs.Units.{HasFate}
use Rattle.odb_tests_text.proofs.UnitLemmas.{fate}
use Rattle.odb_tests_text.proofs.laws.units.fate_of.Goals as goal

pub returns-in-Ok-succeeded_units : goal.returns-in-Ok-succeeded_units
returns-in-Ok-succeeded_units c =
    let rs = plan_records c.args.plan.now in
    let table = statuses c.args.table.now in
    let u = unit_at rs c.args.i in
    let good = c.every_plan.ensures.good in
    let done = c.in-Ok-succeeded_units.done.items in
    let marks : AreMarksOf rs (IsDone rs table) done =
    passing_marks rs (plan_graph c.args.plan.now) (λ i. is_success (slice_index table i)) done c.every_plan.ensures.plan_graph c.in-Ok-succeeded_units.ensures in
    let known : u < unit_count rs = unit_before rs c.args.i (length rs) c.requires.request in
    let within : c.unit_of.result < length done = omega (arith, marks.count, c.unit_of.ensures.within) in
    let first : c.index.result.now ≡ marked done u = c.index.ensures ∙ get_or_default done c.unit_of.result c.index.result.now false within ∙ ap (marked done) c.unit_of.ensures.value in
    let apart = c.every_unit.ensures.apart rs (entries c.args.responses.now) (places c.args.table.now) table good c.requires.fits c.requires.table in
    subst (λ (b : Bool). HasFate rs table u b c.contains.result) (sym first)
    (subst (λ (b : Bool). HasFate rs table u (marked done u) b) (sym c.contains.ensures)
    (fate rs table good apart done (kept c.in-Ok.rest) marks c.in-Ok.ensures.rest.units u known))
