-- The headers of an outcome as pairs.
use Rattle.std.proofs.Common.{[], IfErr, subst, sym}
use Rattle.odb_doc.specs.Headers.{HoldsHeaders, headers_in}
use Rattle.odb_engine.specs.Halts.{Halted}
use Rattle.odb_engine.proofs.EngineLemmas.{exit-error}
use Rattle.odb_calls.specs.Refused.{RefusesHeaders}
use Rattle.odb_calls.proofs.headers.headers_of.Goals as goal

pub returns-in-Ok-clause-pairs : goal.returns-in-Ok-clause-pairs
returns-in-Ok-clause-pairs c =
    let reported = c.in_ok-outcome.ensures.some in
    record {
      value = reported.headers_value;
      is = reported.of_headers;
      headers = headers_in c.in-Some.headers.now;
      held = subst (HoldsHeaders reported.headers_value) (sym c.in-Some.ensures) reported.parts.of_headers;
      each = c.in-Ok.ensures;
    }

pub returns-in_default-clause-pairs : goal.returns-in_default-clause-pairs
returns-in_default-clause-pairs c =
    let reported = c.in_ok-outcome.ensures.some in
    record {
      value = reported.headers_value;
      is = reported.of_headers;
      headers = [];
      held = subst (HoldsHeaders reported.headers_value) (sym c.in_default.ensures) reported.parts.of_headers;
      each = rw c.new-in_default.ensures.items tt;
    }

pub returns-in_err-outcome-clause-refused : goal.returns-in_err-outcome-clause-refused
returns-in_err-outcome-clause-refused c = exit-error (λ r. IfErr r (Halted (RefusesHeaders c.args.bytes.now))) _ _ c.from_residual.ensures.1 c.in_err-outcome.ensures.refused
