use Rattle.std.proofs.Common.{◌∙◌, ◌<◌, length, sym}
use Rattle.serde_json.specs.View.{view}
use Rattle.odb_check.proofs.UnitLemmas.{unit_before}
use Rattle.odb_check.specs.Plans.{plan_records}
use Rattle.odb_check.specs.Units.{unit_at, unit_count}
use Rattle.odb_reply.specs.Fits.{places, statuses}
use Rattle.odb_reply.specs.ResponseDocuments.{entries}
use Rattle.odb_send.specs.Answers.{recorded}
use Rattle.odb_tests_text.proofs.laws.rests.is_sent.Goals as goal

pub returns : goal.returns
returns c =
    let rs = plan_records c.args.plan.now in
    let table = c.args.table.now in
    let good = c.every_plan.ensures.good in
    let u = unit_at rs c.args.i in
    let known : u < unit_count rs = unit_before rs c.args.i (length rs) c.requires.request in
    let marks = c.requires.rest.units.each u known in (
      (λ stays. c.every_rest.ensures.may_be_sent rs (statuses table) (recorded (view c.args.value.now) (places table) (statuses table)) c.args.rest.now good c.requires.rest u (marks.0 (sym c.contains.ensures ∙ stays))),
      (λ sent. c.contains.ensures ∙ marks.1 (c.every_unit.ensures.all rs (entries c.args.responses.now) (places table) (statuses table) good c.requires.fits c.requires.table u sent)),
    )
