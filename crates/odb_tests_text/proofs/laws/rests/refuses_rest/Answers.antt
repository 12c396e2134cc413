use Rattle.std.proofs.Common.{List, ℕ, string_bytes, subst, sym}
use Rattle.serde_json.specs.View.{view}
use Rattle.odb_check.specs.Plans.{plan_records}
use Rattle.odb_doc.specs.canonical.CanonicalLaws.{IsDocumentOf}
use Rattle.odb_reply.specs.Fits.{places, statuses}
use Rattle.odb_send.specs.Answers.{recorded}
use Rattle.odb_send.specs.Rests.{records_in}
use Rattle.odb_tests_text.proofs.laws.rests.refuses_rest.Goals as goal

pub returns : goal.returns
returns c =
    let rs = plan_records c.args.plan.now in
    let d = view c.args.value.now in
    let rest = c.in-Ok.rest in
    let table = statuses c.args.table.now in
    let answers = recorded (view c.args.responses.now) (places c.args.table.now) table in
    let good = c.every_rest.ensures.accepted rs table answers rest c.every_plan.ensures.good c.in-Ok.ensures.rest in
    let text = string_bytes c.in-Ok-rest_text.text in
    let is : IsDocumentOf text (records_in rs rest) =
    c.every_text.ensures.document c.args.document.now d rs table answers rest text c.requires.document c.requires.shaped c.in-Ok.ensures.rest (c.in-Ok-rest_text.ensures d c.requires.document) in
    c.refuses_text.ensures (records_in rs rest) (subst (λ (t : List ℕ). IsDocumentOf t (records_in rs rest)) (sym c.as_str.ensures.value) is) good
