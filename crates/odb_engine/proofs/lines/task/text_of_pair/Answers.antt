-- The documents in a line: the faults of the line, and then what the batch gives.
use Rattle.std.proofs.Common.{◌≡◌, ◌∙◌, inr, subst, sym}
use Rattle.serde_json.specs.View.{view}
use Rattle.odb_doc.specs.Documents.{IsJson}
use Rattle.odb_spans.specs.Positions as spans
use Rattle.odb_doc.specs.declared.fault.Place.TheVariants.{Batch}
use Rattle.odb_engine.specs.Cascade.{AnswersValue}
use Rattle.odb_engine.specs.Contents.Given.{InHand}
use Rattle.odb_engine.specs.Halts.{Found}
use Rattle.odb_engine.specs.Tasks.{AnswersPair, IsTakenOf, OfPair, OfTask, takes_bytes}
use Rattle.odb_engine.proofs.EngineLemmas.{exit-error, found-weaker, halt-document}
use Rattle.odb_engine.proofs.TaskLawLemmas.{first-json}
use Rattle.odb_engine.proofs.lines.task.text_of_pair.Goals as goal

pub returns-in_err-value_or_error-clause-found : goal.returns-in_err-value_or_error-clause-found
returns-in_err-value_or_error-clause-found c =
    let line = c.args.line.now in
    let P = AnswersPair (takes_bytes c.args.task) (OfTask c.args.task) line in
    exit-error (Found (OfPair (takes_bytes c.args.task) (OfTask c.args.task) line) c.args.setup.form) _ _ c.from_residual.ensures.1 (halt-document Batch P line c.args.setup.form _ c.in_err-value_or_error.ensures.fault)

pub returns-clause-found : goal.returns-clause-found
returns-clause-found c =
    let form = c.args.setup.form in
    let line = c.args.line.now in
    let first = view c.in-Some.first in
    let second = view c.in-Some.second in
    let pair : view c.in_ok-value_or_error.field-0 ≡ spans.pair first second = rw (c.in-Some.first-is, c.in-Some.second-is) c.in-Some.ensures.pair in
    let json = subst (IsJson line) pair c.in_ok-value_or_error.ensures.value.1 in
    let document = c.taken_of-document.result.now in
    let taken = subst (λ takes. IsTakenOf takes line (spans.pair first second) document) c.takes_bytes.ensures (c.taken_of-document.ensures first second json) in
    found-weaker (AnswersValue (OfTask c.args.task document (InHand second)) first) (OfPair (takes_bytes c.args.task) (OfTask c.args.task) line) form c.text_in.result
    (λ ended text so. inr (record {
      value = _;
      document = c.in_ok-value_or_error.ensures.value;
      holds = inr (record { first = first; second = second; pair = pair; document = document; taken = subst (λ v. IsTakenOf (takes_bytes c.args.task) line v document) (sym pair) taken; so = so });
    }))
    c.text_in.ensures.found.0

pub text_in-requires-clause-document : goal.text_in-requires-clause-document
text_in-requires-clause-document c =
    let line = c.args.line.now in
    let first = view c.in-Some.first in
    let second = view c.in-Some.second in
    let pair : view c.in_ok-value_or_error.field-0 ≡ spans.pair first second = rw (c.in-Some.first-is, c.in-Some.second-is) c.in-Some.ensures.pair in
    let json = subst (IsJson line) pair c.in_ok-value_or_error.ensures.value.1 in
    λ takes. first-json c.takes_bytes.result line first second c.taken_of-document.result.now (c.taken_of-document.ensures first second json) (c.takes_bytes.ensures ∙ takes)
