-- The responses of a document.
use Rattle.std.proofs.Common.{IfErr, inl, inr}
use Rattle.odb_doc.specs.declared.fault.Place.TheVariants.{Responses}
use Rattle.odb_reply.specs.ResponseDocuments.{entries}
use Rattle.odb_engine.specs.Cascade.{RefusesBytes}
use Rattle.odb_engine.specs.Halts.{Halted}
use Rattle.odb_live.specs.ServiceResponses.{IsLeastOfResponses}
use Rattle.odb_engine.proofs.EngineLemmas.{at-exit, exit-error, halted-by, Halted-weaker}
use Rattle.odb_live.proofs.responses.responses_in.Goals as goal

pub returns-in_err-value-clause-least : goal.returns-in_err-value-clause-least
returns-in_err-value-clause-least c =
    let bytes = c.args.document.now in
    let least = IsLeastOfResponses bytes in
    exit-error (λ r. IfErr r (Halted least)) _ _ c.from_residual.ensures.1
    (Halted-weaker (RefusesBytes Responses bytes) least (λ refusal is. inl is) _ c.in_err-value.ensures.fault)

pub returns-in_err-read-clause-least : goal.returns-in_err-read-clause-least
returns-in_err-read-clause-least c =
    let least = IsLeastOfResponses c.args.document.now in
    let fault = c.in_err-read.field-0.0 in
    at-exit (λ r. IfErr r (Halted least)) _ _ c.from_residual-in_err-read.ensures.1
    (halted-by least _ (λ refusal row. inr (record { value = _; document = c.in_ok-value.ensures.value; holds = record { fault = fault; refuses = c.in_err-read.ensures.least; is = row } })))

pub responses_of-requires : goal.responses_of-requires
responses_of-requires c = (_, c.in_ok-value.ensures.value.1, c.in_ok-read.ensures.responses)

pub returns-clause-responses : goal.returns-clause-responses
returns-clause-responses c = record {
  value = _;
  document = c.in_ok-value.ensures.value;
  holds = (c.in_ok-read.ensures.good, entries c.in_ok-read.read, c.in_ok-found.ensures _ c.in_ok-value.ensures.value.1 c.in_ok-read.ensures.responses);
}
