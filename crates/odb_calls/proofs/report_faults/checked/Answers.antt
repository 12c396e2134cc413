use Rattle.odb_engine.specs.declared.ending.Ended.TheVariants.{Refused}
use Rattle.odb_engine.specs.declared.form.Form.TheVariants.{Lines}
use Rattle.odb_engine.specs.Forms.{fault_text}
use Rattle.odb_engine.specs.Halts.{Found}
use Rattle.odb_engine.proofs.EngineLemmas.{Halted-weaker, exit-error, reports}
use Rattle.odb_calls.specs.Refused.{RefusesBody, RefusesHeaders}
use Rattle.odb_calls.specs.ReportFaults.{ChecksReport, IsFaultOfReport}
use Rattle.odb_calls.specs.ReportFaults.IsFaultOfReport.{OfBody, OfHeaders}
use Rattle.std.proofs.Common.{inl}
use Rattle.odb_calls.proofs.report_faults.checked.Goals as goal

pub returns-in_err-_outcome : goal.returns-in_err-_outcome
returns-in_err-_outcome c =
    let headers = c.args.headers.now in
    let body = c.args.body.now in
    exit-error (Found (ChecksReport headers body) Lines) _ _ c.from_residual.ensures.1
    (Halted-weaker (RefusesHeaders headers) (λ refusal. ChecksReport headers body Lines Refused (fault_text Lines refusal)) (λ refusal is. inl (reports (IsFaultOfReport headers body) Lines refusal (OfHeaders is))) _ c.in_err-_outcome.ensures.refused)

pub returns-in_err-_text : goal.returns-in_err-_text
returns-in_err-_text c =
    let headers = c.args.headers.now in
    let body = c.args.body.now in
    exit-error (Found (ChecksReport headers body) Lines) _ _ c.from_residual-in_err-_text.ensures.1
    (Halted-weaker (RefusesBody body) (λ refusal. ChecksReport headers body Lines Refused (fault_text Lines refusal)) (λ refusal is. inl (reports (IsFaultOfReport headers body) Lines refusal (OfBody _ c.in_ok-_outcome.ensures.some is))) _ c.in_err-_text.ensures.refused)
