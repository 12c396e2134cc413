use Rattle.std.proofs.Common.{slice_index}
use Rattle.serde_json.specs.View.{view}
use Rattle.odb_check.specs.Plans.{plan_graph, plan_records}
use Rattle.odb_doc.specs.Statuses.{is_success}
use Rattle.odb_reply.specs.Fits.{places, statuses}
use Rattle.odb_send.specs.Answers.{recorded}
use Rattle.odb_send.specs.Units.{AreMarksOf, IsDone}
use Rattle.odb_send.proofs.MarkLemmas.{passing_marks}
use Rattle.odb_tests_text.proofs.laws.units.rest_as_part.Goals as goal

pub returns-in-Ok : goal.returns-in-Ok
returns-in-Ok c =
    let rs = plan_records c.args.plan.now in
    let table = statuses c.args.table.now in
    let answers = recorded (view c.args.given.now) (places c.args.table.now) table in
    let done = c.in-Ok.done.items in
    let marks : AreMarksOf rs (IsDone rs table) done =
    passing_marks rs (plan_graph c.args.plan.now) (λ i. is_success (slice_index table i)) done c.every_plan.ensures.plan_graph c.in-Ok.ensures in
    c.every_part.ensures.rest rs table answers done c.in_ok-found.found.0 c.every_plan.ensures.good marks c.in_ok-found.ensures.rest
