use Rattle.std.proofs.Common.{◌<◌, inl, inr, length, ap, rules, arith}
use Rattle.std.proofs.lemmas.Bool.{cases_lt}
use Rattle.std.proofs.lemmas.List.{length-map}
use Rattle.serde_json.specs.View.{view}
use Rattle.odb_doc.specs.declared.fault.DocumentRule.TheVariants as document
use Rattle.odb_doc.specs.batch.Shapes.{elements}
use Rattle.odb_doc.proofs.RequestLemmas.{least_of_request}
use Rattle.odb_doc.proofs.batch.Batch.read.Goals as goal

pub returns-clause-good : goal.returns-clause-good
returns-clause-good c = (c.in-Some.ensures.some, rw c.in-Some.ensures.elements c.in_ok-requests.ensures.unbroken)

pub returns-clause-records : goal.returns-clause-records
returns-clause-records c = rw c.in-Some.ensures.elements c.in_ok-requests.ensures.says

pub invariant_of-result : goal.invariant_of-result
invariant_of-result c =
    let d = view c.args.document.now in
    elim (cases_lt 10000 (length (elements d))) [
      | inl more ↦ absurd (c.in-Some.ensures.some document.TooMany more)
      | inr few ↦ omega (arith, few, ap length c.in-Some.ensures.elements, length-map c.in-Some.elements.now view, c.in_ok-requests.ensures.len)
    ]

pub returns-in_err-requests-clause-least : goal.returns-in_err-requests-clause-least
returns-in_err-requests-clause-least c =
    let d = view c.args.document.now in
    let least = least_of_request d c.in_err-requests.field-0.0 c.in-Some.ensures.some (rw c.in-Some.ensures.elements c.in_err-requests.ensures.first) in
    search (rules, least)

pub returns-in_err-requests-clause-memory : goal.returns-in_err-requests-clause-memory
returns-in_err-requests-clause-memory c =
    let some : 0 < length (elements (view c.args.document.now)) =
    rw c.in-Some.ensures.elements (omega (arith, length-map c.in-Some.elements.now view, c.in_err-requests.ensures.some)) in
    search (rules, some, c.in-Some.ensures.some)
