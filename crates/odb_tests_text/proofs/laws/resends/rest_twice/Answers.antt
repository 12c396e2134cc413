use Rattle.std.proofs.Common.{string_bytes}
use Rattle.serde_json.specs.View.{view}
use Rattle.odb_check.specs.Plans.{plan_records}
use Rattle.odb_reply.specs.Fits.{places, statuses}
use Rattle.odb_send.specs.Answers.{recorded}
use Rattle.odb_send.specs.Rests.{kept}
use Rattle.odb_tests_text.specs.Rests.{HasNoRest, HasRestText}
use Rattle.odb_tests_text.proofs.RestLemmas.{one_or_none}
use Rattle.odb_tests_text.proofs.laws.resends.rest_twice.Goals as goal

pub returns : goal.returns
returns c =
    let document = c.args.document.now in
    let d = view c.args.value.now in
    let rs = plan_records c.args.plan.now in
    let table = statuses c.args.table.now in
    let answers = recorded (view c.args.given.now) (places c.args.table.now) table in
    let law = c.one_rest.ensures in
    one_or_none string_bytes (HasRestText document d rs table answers) (HasNoRest rs table answers)
    (λ text other one two. law.text document d rs table answers one.rest two.rest text other c.requires.document.json one.rest_is two.rest_is one.text_is two.text_is)
    (λ fault other one two. law.fault rs one.units answers fault other one.numbered two.numbered (one.refuses one.units one.marks) (two.refuses one.units one.marks))
    (λ text fault one two. law.none rs table answers one.rest fault two.numbered (two.refuses (kept one.rest) one.rest_is.units) one.rest_is)
    c.text_of_rest.result c.text_of_rest-2.result c.text_of_rest.ensures c.text_of_rest-2.ensures
