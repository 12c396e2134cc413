use Rattle.std.proofs.Common.{List, ℕ, string_bytes, subst, sym}
use Rattle.serde_json.specs.View.{view}
use Rattle.odb_check.specs.Plans.{plan_records}
use Rattle.odb_doc.specs.canonical.CanonicalLaws.{IsDocumentOf}
use Rattle.odb_reply.specs.Fits.{places, statuses}
use Rattle.odb_reply.specs.ResponseDocuments.{entries}
use Rattle.odb_send.specs.Answers.{recorded}
use Rattle.odb_send.specs.Rests.{records_in}
use Rattle.odb_tests_text.proofs.laws.resends.fits_resent.Goals as goal

pub returns : goal.returns
returns c = λ fit.
    let rs = plan_records c.args.plan.now in
    let d = view c.args.value.now in
    let table = c.in-Ok.table in
    let rest = c.in-Ok-rest_of.rest in
    let answers = recorded (view c.args.given.now) (places table) (statuses table) in
    let good = c.every_plan.ensures.good in
    let text = string_bytes c.in-Ok-rest_text.text in
    let is : IsDocumentOf text (records_in rs rest) =
    c.every_text.ensures.document c.args.document.now d rs (statuses table) answers rest text c.requires.document c.requires.shaped c.in-Ok-rest_of.ensures.rest (c.in-Ok-rest_text.ensures d c.requires.document) in
    let fits = c.fits_text.ensures (records_in rs rest) (subst (λ (t : List ℕ). IsDocumentOf t (records_in rs rest)) (sym c.as_str.ensures.value) is) fit in
    c.every_resending.ensures rs (entries c.args.responses.now) (entries c.args.others.now) (places table) (statuses table) answers rest good c.in-Ok.ensures.fits c.in-Ok.ensures.table c.in-Ok-rest_of.ensures.rest fits
