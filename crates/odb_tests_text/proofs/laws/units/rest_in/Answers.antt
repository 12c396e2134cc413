use Rattle.serde_json.specs.View.{view}
use Rattle.odb_check.specs.Plans.{plan_records}
use Rattle.odb_reply.specs.Fits.{places, statuses}
use Rattle.odb_send.specs.Answers.{recorded}
use Rattle.odb_tests_text.proofs.laws.units.rest_in.Goals as goal

pub returns-in-Ok-positions_of-clause-plan : goal.returns-in-Ok-positions_of-clause-plan
returns-in-Ok-positions_of-clause-plan c =
    let table = statuses c.args.table.now in
    let answers = recorded (view c.args.given.now) (places c.args.table.now) table in
    c.every_rest.ensures.plan (plan_records c.args.plan.now) table answers c.in-Ok.rest c.every_plan.ensures.good c.in-Ok.ensures.rest
