use Rattle.std.proofs.Common.{◌≡◌, ◌∙◌, ◌<◌, ℕ, Some, Result, Ok, Err, MatchOption, ap, sym, arith}
use Rattle.std.specs.Result.{OkIff, result_ok}
use Rattle.serde_json.specs.Data.{Num, unsigned, negative, float}
use Rattle.serde_json.specs.Find.{as_u64}
use Rattle.serde_json.specs.View.{number_view}
use Rattle.odb_doc.specs.recorded.Events.{IsReportedStatus}
use Rattle.odb_doc.proofs.recorded.event.status_of.Goals as goal

-- a whole number is the status if 16 bits hold it
reported : {E : Type 0} (status : Num) (n : ℕ) (code : Result ℕ E) → Some n ≡ as_u64 status → OkIff code (n < 65536) n
    → MatchOption (result_ok code) (¬ IsReportedStatus status) (λ code. IsReportedStatus status × (status ≡ unsigned code))
reported (unsigned m) n (Ok code) is fits =
    let same : n ≡ m = cc (is) in
    (omega (arith, fits.0, same), ap unsigned (sym same ∙ sym fits.1))
reported (unsigned m) n (Err e) is fits =
    let same : n ≡ m = cc (is) in
    λ small. fits (omega (arith, small, same))
reported (negative z) n code is fits = absurd (cc (is))
reported (float x) n code is fits = absurd (cc (is))

pub returns : goal.returns
returns c = rw c.ok.ensures.value (reported (number_view c.args.status) c.in_ok-as_u64.field-0 c.try_from.result c.in_ok-as_u64.ensures c.try_from.ensures)
