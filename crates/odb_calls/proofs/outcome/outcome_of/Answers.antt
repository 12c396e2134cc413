use Rattle.std.proofs.Common.{rules, None, Some, subst}
use Rattle.serde_json.specs.View.{view}
use Rattle.odb_doc.specs.Headers.{IsHeaders}
use Rattle.odb_doc.specs.Refusals.{Printed}
use Rattle.odb_doc.specs.recorded.Parts.{HasParts}
use Rattle.odb_engine.specs.Halts.{Halted}
use Rattle.odb_engine.proofs.EngineLemmas.{halted-by, Halted-weaker}
use Rattle.odb_calls.specs.Live.{IsReported}
use Rattle.std.proofs.lemmas.List.{nil_from_length}
use Rattle.odb_calls.specs.Live.IsPart.{Absent, Present}
use Rattle.odb_calls.specs.Refused.{IsBadEvent, RefusesHeaders}
use Rattle.odb_calls.specs.Refused.RefusesHeaders.{OfBytes, OfValue}
use Rattle.odb_calls.proofs.OutcomeLemmas.{also-ok, also-err}
use Rattle.odb_calls.proofs.outcome.outcome_of.Goals as goal

pub returns-then-is_empty-clause-some : goal.returns-then-is_empty-clause-some
returns-then-is_empty-clause-some c = record { headers_value = _; of_headers = Absent (nil_from_length c.args.headers.now (search rules)); parts = subst (λ n. HasParts n None None c.bare.result) c.status_of.ensures c.bare.ensures }

pub returns-in-Ok-clause-some : goal.returns-in-Ok-clause-some
returns-in-Ok-clause-some c =
    let headers = Some (view c.in-Ok.value) in
    also-ok (HasParts c.status_of-in-Ok.result headers None) (IsReported c.args.status c.args.headers.now) c.outcome_with.result
    (λ outcome parts. record { headers_value = headers; of_headers = Present _ c.in-Ok.ensures.ok; parts = subst (λ n. HasParts n headers None outcome) c.status_of-in-Ok.ensures parts })
    c.outcome_with.ensures.some

pub returns-in-Ok-clause-refused : goal.returns-in-Ok-clause-refused
returns-in-Ok-clause-refused c =
    let value = view c.in-Ok.value in
    let bad : Printed → Type 0 = λ refusal. (¬ IsHeaders (Some value)) × IsBadEvent refusal in
    let refuses : Printed → Type 0 = RefusesHeaders c.args.headers.now in
    also-err (Halted bad) (Halted refuses) c.outcome_with.result (Halted-weaker bad refuses (λ refusal no. OfValue value c.in-Ok.ensures.ok no.0 no.1)) c.outcome_with.ensures.refused

pub returns-in-Err-clause-refused : goal.returns-in-Err-clause-refused
returns-in-Err-clause-refused c = halted-by (RefusesHeaders c.args.headers.now) _ (λ refusal row. OfBytes (record { fault = c.in-Err.fault; refuses = c.in-Err.ensures.err; is = row })) c.halt_at.result c.halt_at.ensures
