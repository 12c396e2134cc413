use Rattle.std.proofs.Common.{inl, inr, subst, List, ℕ}
use Rattle.odb_calls.specs.Refused.{RefusesBody, RefusesHeaders}
use Rattle.odb_calls.proofs.StepLemmas.{bad-response}
use Rattle.odb_calls.proofs.steps.report_of.Goals as goal

pub returns-in-Err-clause-refused : goal.returns-in-Err-clause-refused
returns-in-Err-clause-refused c =
    bad-response c.args.document.now c.args.reply (RefusesHeaders c.bytes_at-headers.result.now) (λ why is. inl (subst (λ (bytes : List ℕ). RefusesHeaders bytes why) c.bytes_at-headers.ensures is)) c.in-Err.halt c.at_response.result c.in-Err.ensures.refused c.at_response.ensures.refused

pub returns-in-Err-body_of-clause-refused : goal.returns-in-Err-body_of-clause-refused
returns-in-Err-body_of-clause-refused c =
    bad-response c.args.document.now c.args.reply (RefusesBody c.bytes_at.result.now) (λ why is. inr (subst (λ (bytes : List ℕ). RefusesBody bytes why) c.bytes_at.ensures is)) c.in-Err-body_of.halt c.at_response-in-Err-body_of.result c.in-Err-body_of.ensures.refused
    c.at_response-in-Err-body_of.ensures.refused
