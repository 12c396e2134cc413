use Rattle.std.proofs.Common.{◌≡◌, true, rules, arith}
use Rattle.std.proofs.lemmas.Option.{IfSome_then}
use Rattle.serde_json.specs.View.{view}
use Rattle.odb_check.specs.Plans.{plan_records}
use Rattle.odb_reply.specs.Fits.{places, statuses}
use Rattle.odb_send.specs.Answers.{recorded}
use Rattle.odb_send.specs.Laws.{HasSucceeded}
use Rattle.odb_tests_text.proofs.laws.units.rest_of_done.Goals as goal

pub returns : goal.returns
returns c =
    let rs = plan_records c.args.plan.now in
    let table = statuses c.args.table.now in
    let answers = recorded (view c.args.given.now) (places c.args.table.now) table in
    let all : c.are_successes.result ≡ true = search rules in
    let succeeded : HasSucceeded rs table = λ i within. c.are_successes.ensures all i (omega (arith, within, c.requires.statuses)) in
    IfSome_then c.rest_in.result c.rest_in.ensures.rest (λ found is. c.every_rest.ensures.nothing rs table answers found.0 is succeeded)
