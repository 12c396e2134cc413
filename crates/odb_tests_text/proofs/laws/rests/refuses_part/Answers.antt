use Rattle.std.proofs.Common.{List, ℕ, string_bytes, subst, sym}
use Rattle.serde_json.specs.View.{view}
use Rattle.odb_check.specs.Plans.{plan_records}
use Rattle.odb_doc.specs.canonical.CanonicalLaws.{IsDocumentOf}
use Rattle.odb_send.specs.Answers.{answers_in}
use Rattle.odb_send.specs.Rests.{records_in}
use Rattle.odb_tests_text.proofs.laws.rests.refuses_part.Goals as goal

pub returns : goal.returns
returns c =
    let rs = plan_records c.args.plan.now in
    let d = view c.args.value.now in
    let part = c.in-Ok.part in
    let states = c.args.states.now in
    let limit = c.args.limit in
    let answers = answers_in c.args.answers.now in
    let good = c.every_part.ensures.accepted rs states limit answers part c.every_plan.ensures.good c.in-Ok.ensures.part in
    let text = string_bytes c.in-Ok-rest_text.text in
    let is : IsDocumentOf text (records_in rs part) =
    c.every_part.ensures.document c.args.document.now d rs states limit answers part text c.requires.document c.requires.shaped c.in-Ok.ensures.part (c.in-Ok-rest_text.ensures d c.requires.document) in
    c.refuses_text.ensures (records_in rs part) (subst (λ (t : List ℕ). IsDocumentOf t (records_in rs part)) (sym c.as_str.ensures.value) is) good
